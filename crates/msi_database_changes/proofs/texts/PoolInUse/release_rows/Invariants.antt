use Rattle.std.proofs.Common.{◌≡◌, fold, take}
use Rattle.msi_database_changes.specs.Texts.{cell_released, in_use}
use Rattle.msi_database_changes.proofs.texts.PoolInUse.release_rows.Given as goal

abbrev pub invariant-loop-row : goal.invariant-loop-row
invariant-loop-row l = record {
  released : in_use l.self ≡ fold (fold cell_released) (in_use l.initial.self) (take l.row-index l.rows);
  page : l.self.pool.page ≡ l.initial.self.pool.page;
  long : l.self.pool.long ≡ l.initial.self.pool.long;
}
