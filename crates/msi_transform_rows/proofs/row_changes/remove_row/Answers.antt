use Rattle.std.proofs.Common.{◌∙◌, ap, sym}
use Rattle.msi_transform_rows.specs.RowChanges.{TableChange}
use Rattle.msi_transform_rows.specs.RowsInHand.{hand}
use Rattle.msi_transform_rows.proofs.RowChangesLemmas.{none_removed}
use Rattle.msi_transform_rows.proofs.row_changes.remove_row.Goals as goal

pub returns-in_default-clause-ok : goal.returns-in_default-clause-ok
returns-in_default-clause-ok c =
    none_removed c.args.change.now (hand c.args.rows.now) c.args.key.now _ c.change.inside.passing.removed_row_missing c.refuse_if.result
    (sym c.remove.ensures.held ∙ c.in_default.is) c.remove.ensures.gone (ap (λ (change : TableChange). change.passing.removed_row_missing) c.change.view_is)
    c.refuse_if.ensures
