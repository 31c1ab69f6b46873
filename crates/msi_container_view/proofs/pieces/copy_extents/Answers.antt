use Rattle.std.proofs.Common.{rules, ◌≡◌, ◌∙◌, [], arith}
use Rattle.std.proofs.lemmas.List.Sums.{sum_by_more_le}
use Rattle.msi_container_view.specs.Extents.{Extent}
use Rattle.msi_container_view.specs.Reading.{Tells}
use Rattle.msi_container_view.proofs.extent_lemmas.PartLemmas.{on_failed, part_before, part_during}
use Rattle.msi_container_view.proofs.pieces.copy_extents.Goals as goal

pub returns-in_err-append-clause-count : goal.returns-in_err-append-clause-count
returns-in_err-append-clause-count g c =
    omega (arith, c.loop-extent.invariant.count, c.append.ensures.count, sum_by_more_le (λ (e : Extent). e.count) c.args.extents.now c.loop-extent.extent-index (record { start = 0; count = 0 }) c.loop-extent-test.true)

pub returns-in_err-write_fully-clause-count : goal.returns-in_err-write_fully-clause-count
returns-in_err-write_fully-clause-count g c =
    omega (arith, c.loop-extent.invariant.count, c.append.ensures.count, sum_by_more_le (λ (e : Extent). e.count) c.args.extents.now c.loop-extent.extent-index (record { start = 0; count = 0 }) c.loop-extent-test.true)

pub returns-in_err-append-clause-part : goal.returns-in_err-append-clause-part
returns-in_err-append-clause-part g c = on_failed c.from_residual.result (λ file told.
    part_before file c.args.extents.now c.loop-extent.extent-index (record { start = 0; count = 0 }) c.loop-extent-test.true _ _ (c.loop-extent.invariant.written file told))

pub returns-in_err-write_fully-clause-part : goal.returns-in_err-write_fully-clause-part
returns-in_err-write_fully-clause-part g c = on_failed c.from_residual-in_err-write_fully.result (λ file told.
    let held : Tells c.loop-extent.reading.held file = c.loop-extent.invariant.told ∙ told in
    let empty : c.clear.new.self.items ≡ [] = search rules in
    part_during file c.args.extents.now c.loop-extent.extent-index (record { start = 0; count = 0 }) c.loop-extent-test.true c.loop-extent.reading.held _ _ _ c.clear.new.self.items c.append.new.into.items c.as_slice.result.now
    held empty c.in_ok-append.ensures.ok c.as_slice.ensures.value (c.loop-extent.invariant.written file told) c.in_err-write_fully.ensures.part)
