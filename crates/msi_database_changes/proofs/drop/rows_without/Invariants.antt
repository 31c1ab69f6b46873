use Rattle.std.proofs.Common.{◌≡◌, not, filter}
use Rattle.msi_database_changes.specs.Drop.{is_row_about}
use Rattle.msi_database_changes.specs.Texts.{in_use, rows_released}
use Rattle.msi_database_changes.proofs.drop.rows_without.Given as goal

abbrev pub invariant-loop-row : goal.invariant-loop-row
invariant-loop-row l = record {
  kept : l.kept.items ≡ filter (λ row. not (is_row_about l.old.places l.name row)) l.yielded;
  released : in_use l.pool ≡ rows_released (in_use l.initial.pool) (filter (is_row_about l.old.places l.name) l.yielded);
  page : l.pool.pool.page ≡ l.initial.pool.pool.page;
  long : l.pool.pool.long ≡ l.initial.pool.pool.long;
}
