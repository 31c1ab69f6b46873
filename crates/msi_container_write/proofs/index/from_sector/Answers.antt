use Rattle.std.proofs.Common.{◌≡◌, ◌-◌, ◌<◌, List, [], ℕ, if◌then◌else◌, true, false, leb, rules, of_calls, length, sym, ◌∙◌, ap, arith}
use Rattle.std.proofs.lemmas.Bool.{leb-true}
use Rattle.std.proofs.lemmas.List.Sorted.{IsPartitionPoint-from_clause}
use Rattle.std.specs.List.Sorted.{IsPartitionPoint}
use Rattle.msi_container_format.specs.Container.{is_mini}
use Rattle.msi_container_write.specs.Index.{Placed, streams_of}
use Rattle.msi_container_write.specs.Layout.{large_part, large_parts}
use Rattle.msi_container_write.proofs.sectors.IndexLemmas.{found_part, first_at, parts_long}
use Rattle.msi_container_write.proofs.sectors.RestLemmas.{firsts_partitioned, found_rest, no_rest}
use Rattle.msi_container_write.proofs.index.from_sector.Goals as goal
use Rattle.msi_container_write.proofs.index.from_sector.Goals.{After-partition_point-until}

-- the places up to the last that starts at the sector or before it
point : (c : After-partition_point-until)
    → IsPartitionPoint (λ (place : Placed). leb place.first c.args.m ≡ true) (λ (place : Placed). leb place.first c.args.m ≡ false) c.args.places.now c.partition_point-until.result
point c =
    let places = c.args.places.now in
    IsPartitionPoint-from_clause (λ (place : Placed). leb place.first c.args.m) places c.partition_point-until.result
    c.partition_point-until.ensures.partitioned
    (firsts_partitioned (λ (place : Placed). place.first) places 512 (large_parts (streams_of places)) c.args.m (first_at places c.requires.indexed))
    (λ a r f k. search (rules, of_calls))

pub returns-then-until-eq0 : goal.returns-then-until-eq0
returns-then-until-eq0 c =
    let places = c.args.places.now in
    let none : Placed = record { stream = ([], []); first = 0; first_mini = 0 } in
    sym (no_rest (λ (place : Placed). place.first) places 512 (large_parts (streams_of places)) c.args.m c.partition_point-until.result none
    (first_at places c.requires.indexed) (parts_long large_part places)
    (point (goal.at.returns-then-until-eq0 c).After-partition_point-until) c.if-until-eq0.true)

pub overflow_sub-m : goal.overflow_sub-m
overflow_sub-m c =
    let place = c.index-places-until.result in
    let until = c.partition_point-until.result in
    let found = point (goal.at.overflow_sub-m c).After-partition_point-until in
    let here = leb-true _ _ (found.0 (until - 1) place (omega arith) (omega (arith, c.if-until-eq0.false))) in
    omega (arith, here, c.first.ensures, ap (λ (p : Placed). p.first) c.index-places-until.is)

pub returns : goal.returns
returns c =
    let places = c.args.places.now in
    let place = c.index-places-until.result in
    let until = c.partition_point-until.result in
    let some : 0 < until = omega (arith, c.if-until-eq0.false) in
    found_part large_part (λ (p : Placed). p.first) places 512 c.args.m until c.first.result place c.large_part.result.now _
    c.index-places-until.is
    (omega (arith, c.partition_point-until.ensures.bound))
    c.first.ensures
    (c.large_part.ensures ∙ ap (λ (bs : List ℕ). if is_mini (length bs) then [] else bs) c.bytes.ensures)
    c.from_unit.ensures
    (found_rest (λ (p : Placed). p.first) places 512 (large_parts (streams_of places)) c.args.m until place
    (first_at places c.requires.indexed) (parts_long large_part places) (omega arith)
    (point (goal.at.returns c).After-partition_point-until) some c.partition_point-until.ensures.bound)
