use Rattle.std.proofs.Common.{◌≡◌, fold, take}
use Rattle.msi_database_changes.specs.Texts.{cell_released, in_use}
use Rattle.msi_database_changes.proofs.texts.PoolInUse.release_row.Given as goal

abbrev pub invariant-loop-cell : goal.invariant-loop-cell
invariant-loop-cell l = record {
  released : in_use l.self ≡ fold cell_released (in_use l.initial.self) (take l.cell-index l.row);
  page : l.self.pool.page ≡ l.initial.self.pool.page;
  long : l.self.pool.long ≡ l.initial.self.pool.long;
}
