use Rattle.std.proofs.Common.{◌∙◌, ap}
use Rattle.std.proofs.lemmas.Result.{on_ok_weaker}
use Rattle.msi_transform_records.specs.RecordCells.{changes_of_record}
use Rattle.msi_transform_rows.specs.RowsInHand.{hand}
use Rattle.msi_transform_rows.proofs.RowChangesLemmas.{changed_record}
use Rattle.msi_transform_rows.proofs.row_changes.apply_record.Goals as goal

pub returns-in_ok-told-in-Change-clause-ok : goal.returns-in_ok-told-in-Change-clause-ok
returns-in_ok-told-in-Change-clause-ok c =
    let told_is = c.as_slice.ensures.value ∙ c.in_ok-told-in-Change.ensures.ok
    ∙ ap (λ shapes. changes_of_record shapes c.args.record.now) c.shapes.ensures in
    on_ok_weaker c.change_row.result (λ is.
    changed_record c.args.change.now (hand c.args.rows.now) c.args.record.now c.in-Change.field-0 c.in_ok-key.key c.as_slice.result.now c.in-Change.is c.in_ok-key.ensures.ok told_is
    ∙ is) c.change_row.ensures.ok

pub returns-in_ok-told-in-Change-clause-kind : goal.returns-in_ok-told-in-Change-clause-kind
returns-in_ok-told-in-Change-clause-kind c =
    let told_is = c.as_slice.ensures.value ∙ c.in_ok-told-in-Change.ensures.ok
    ∙ ap (λ shapes. changes_of_record shapes c.args.record.now) c.shapes.ensures in
    rw (changed_record c.args.change.now (hand c.args.rows.now) c.args.record.now c.in-Change.field-0 c.in_ok-key.key c.as_slice.result.now c.in-Change.is c.in_ok-key.ensures.ok told_is)
    c.change_row.ensures.kind
