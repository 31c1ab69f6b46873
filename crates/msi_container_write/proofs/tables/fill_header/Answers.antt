use Rattle.std.proofs.Common.{◌≡◌, ◌++◌, List, ℕ, length, drop, replicate, ◌∙◌, ap, arith, refl}
use Rattle.std.specs.List.{flat_map}
use Rattle.std.specs.Int.{to_le_bytes, w32}
use Rattle.std.proofs.lemmas.List.{length-append, length-drop}
use Rattle.msi_container_format.specs.Format.{signature}
use Rattle.msi_container_write.specs.Image as spec
use Rattle.msi_container_write.proofs.sectors.HeaderLemmas.{five_written}
use Rattle.msi_container_write.proofs.placing.RangeLemmas.{numbers_long}
use Rattle.msi_container_write.proofs.sectors.RestLemmas.{middle_long}
use Rattle.msi_container_write.proofs.tables.fill_header.Goals as goal

pub returns : goal.returns
returns c =
    let start : List ℕ = c.copy_from_slice.new.self ++ drop 8 c.args.sector.now in
    let a_is : c.copy_from_slice.new.self ≡ signature = c.copy_from_slice.ensures.after in
    let start_long : length start ≡ 512 = omega (arith, ap length a_is, length-append c.copy_from_slice.new.self (drop 8 c.args.sector.now), length-drop 8 c.args.sector.now) in
    let b_is : c.fill.new.self ≡ replicate 16 0 = c.fill.ensures.after (λ y e. e) ∙ ap (λ n. replicate n 0) (middle_long 8 16 16 start refl (omega arith)) in
    let c_is = c.copy_from_slice-2.ensures.after in
    let d_is : c.write_u32_into.new.dst ≡ flat_map (to_le_bytes w32) (spec.front_numbers c.args.fat.count c.args.mini_fat c.args.difat) =
    c.write_u32_into.ensures ∙ ap (flat_map (to_le_bytes w32)) c.front_numbers.ensures in
    let e_long : length c.fill_list.new.list ≡ 436 = ap length c.fill_list.ensures ∙ numbers_long (spec.listed_entry c.args.fat.first c.args.fat.count) 109 in
    five_written c.args.sector.now c.copy_from_slice.new.self c.fill.new.self c.copy_from_slice-2.new.self c.write_u32_into.new.dst c.fill_list.new.list _ _ _ _ _ 8 24 40 76 16 16 36 436
    a_is b_is c_is d_is c.fill_list.ensures
    (omega (arith, ap length a_is))
    (omega (arith, ap length b_is))
    (omega (arith, ap length c_is))
    (omega (arith, ap length d_is))
    (omega arith)
    (omega (arith, ap length b_is))
    (omega (arith, ap length c_is))
    (omega (arith, ap length d_is))
    (λ four_long. omega (arith, e_long))
