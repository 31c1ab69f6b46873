use Rattle.std.proofs.Common.{◌≡◌, ◌*◌, ◌+◌, ℕ, map, length, sym, ◌∙◌, ap, arith, refl}
use Rattle.std.specs.List.{range_with_len}
use Rattle.std.proofs.lemmas.List.{take_all}
use Rattle.std.proofs.lemmas.List.FromFn.{length-map-range_with_len}
use Rattle.msi_container_write.specs.Extents.{laid_byte}
use Rattle.msi_container_write.specs.Index.{streams_of}
use Rattle.msi_container_write.specs.Layout.{mini_parts}
use Rattle.msi_container_write.proofs.sectors.HeaderLemmas.{put_long}
use Rattle.msi_container_write.proofs.sectors.RestLemmas.{unit_filled, unit_more, middle_long}
use Rattle.msi_container_write.proofs.content.fill_mini_stream.Goals as goal

pub loop-k-preserved : goal.loop-k-preserved
loop-k-preserved c =
    let parts = mini_parts (streams_of c.args.places.now) in
    let k = c.loop-k.k in
    let long : length c.loop-k.sector ≡ 512 = c.loop-k.invariant.long in
    let filled = unit_filled 64 parts (8 * c.args.m + k) _ c.from_mini_sector-rest.result.now c.fill_unit.new.unit
    c.from_mini_sector-rest.ensures
    (middle_long (64 * k) 64 _ c.loop-k.sector (omega arith) (omega arith))
    c.fill_unit.ensures in
    record {
      long =
          put_long c.loop-k.sector c.fill_unit.new.unit (64 * k) _
          (omega (arith, ap length filled, length-map-range_with_len (laid_byte 64 parts) (64 * (8 * c.args.m + k)) 64))
          (omega arith)
          ∙ long;
      filled =
          unit_more 64 parts (512 * c.args.m) (64 * k) (8 * c.args.m + k) (64 * k) _ (64 * (k + 1)) c.loop-k.sector c.fill_unit.new.unit
          c.loop-k.invariant.filled filled (omega arith) refl (omega arith) (omega arith);
    }

pub returns : goal.returns
returns c =
    let parts = mini_parts (streams_of c.args.places.now) in
    let place = 64 * c.loop-k.k in
    let whole : place ≡ 512 = omega arith in
    sym (take_all place c.loop-k.sector (omega (arith, c.loop-k.invariant.long)))
    ∙ c.loop-k.invariant.filled
    ∙ ap (λ (n : ℕ). map (laid_byte 64 parts) (range_with_len (512 * c.args.m) n)) whole
