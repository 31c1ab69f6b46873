use Rattle.std.proofs.Common.{◌∙◌}
use Rattle.std.proofs.lemmas.Result.{err_from_is_err_and}
use Rattle.std.specs.FinMap.{entries}
use Rattle.msi_transform_applying.specs.AnewInHand.{anew_in_hand}
use Rattle.msi_transform_rows.specs.RowsInHand.{hand}
use Rattle.msi_transform_applying.proofs.TableApplyingLemmas.{record_refused, table_changed, table_refused}
use Rattle.msi_transform_applying.proofs.table_applying.change_table.Goals as goal

pub returns-in_err-apply_to_rows-clause-kind : goal.returns-in_err-apply_to_rows-clause-kind
returns-in_err-apply_to_rows-clause-kind c =
    let p = err_from_is_err_and c.from_residual-in_err-apply_to_rows.result c.from_residual-in_err-apply_to_rows.ensures.1 in
    rw (p.1, p.2) (record_refused c.args.change.now (entries c.args.told.now) c.args.number (anew_in_hand c.args.hand) c.args.name.now c.args.bytes.now
    c.in_ok-table.table c.as_slice-slice.result.now c.in_ok-table.ensures.ok (c.as_slice-slice.ensures ∙ c.in_ok-columns.ensures.ok) c.in_default.ensures.ok
    (hand c.in_ok-rows.rows) c.in_err-apply_to_rows.field-0.0 c.in_ok-rows.ensures.ok c.in_err-apply_to_rows.ensures.kind)

pub returns-clause-ok : goal.returns-clause-ok
returns-clause-ok c =
    table_changed c.args.change.now (entries c.args.told.now) c.args.number (anew_in_hand c.args.hand) c.args.name.now c.args.bytes.now
    c.in_ok-table.table c.as_slice-slice.result.now c.in_ok-table.ensures.ok (c.as_slice-slice.ensures ∙ c.in_ok-columns.ensures.ok) c.in_default.ensures.ok
    (hand c.in_ok-rows.rows) (hand c.apply_to_rows.new.rows) c.in_ok-columns.columns (anew_in_hand c.in_ok-with_anew.field-0)
    c.in_ok-rows.ensures.ok c.in_ok-apply_to_rows.ensures.ok c.as_slice-slice.ensures c.in_ok-with_anew.ensures.ok

pub returns-in-Err-clause-kind : goal.returns-in-Err-clause-kind
returns-in-Err-clause-kind c =
    table_refused c.args.change.now (entries c.args.told.now) c.args.number (anew_in_hand c.args.hand) c.args.name.now c.args.bytes.now
    c.in_ok-table.table c.as_slice-slice.result.now c.in_ok-table.ensures.ok (c.as_slice-slice.ensures ∙ c.in_ok-columns.ensures.ok)
    c.in-Err.error c.at.result c.at.ensures c.in-Err.ensures.kind
