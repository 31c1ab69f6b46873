use Rattle.std.proofs.Common.{arith}
use Rattle.std.proofs.lemmas.Result.{err_from_is_err_and}
use Rattle.msi_database_changes.specs.Texts.{in_use}
use Rattle.msi_transform_rows.proofs.RowChangesLemmas.{cells_refused}
use Rattle.msi_transform_rows.proofs.row_changes.change_cells.Goals as goal

pub returns-in_err-change_cell-clause-kind : goal.returns-in_err-change_cell-clause-kind
returns-in_err-change_cell-clause-kind c =
    let p = err_from_is_err_and c.from_residual.result c.from_residual.ensures.1 in
    rw (p.1, p.2) (cells_refused c.args.change.now (in_use c.loop-place.pool) c.loop-place.cells.items c.args.told.now c.loop-place.place-index c.loop-place-item.result
    _ _ (omega arith) c.loop-place-item.is c.loop-place.invariant.far c.in_err-change_cell.ensures.kind)
