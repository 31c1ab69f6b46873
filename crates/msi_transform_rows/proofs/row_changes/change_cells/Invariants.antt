use Rattle.std.proofs.Common.{◌≡◌, drop}
use Rattle.msi_database_changes.specs.Texts.{in_use}
use Rattle.msi_transform_rows.specs.RowChanges.{cells_changed}
use Rattle.msi_transform_rows.proofs.row_changes.change_cells.Given as goal

abbrev pub invariant-loop-place : goal.invariant-loop-place
invariant-loop-place l = record {
  far : cells_changed l.change (in_use l.initial.pool) l.initial.cells.items l.told
      ≡ cells_changed l.change (in_use l.pool) l.cells.items (drop l.place-index l.told);
  page : l.pool.pool.page ≡ l.initial.pool.pool.page;
  long : l.pool.pool.long ≡ l.initial.pool.pool.long;
}
