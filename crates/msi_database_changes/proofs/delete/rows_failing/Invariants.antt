use Rattle.std.proofs.Common.{◌≡◌, true, false, filter}
use Rattle.msi_table_cells.specs.CellValues.{row_values}
use Rattle.msi_query_expressions.specs.Conditions.{meets}
use Rattle.msi_database_changes.specs.Database.{same_bool}
use Rattle.msi_database_changes.specs.Texts.{in_use, rows_released}
use Rattle.msi_database_changes.proofs.delete.rows_failing.Given as goal

abbrev pub invariant-loop-row : goal.invariant-loop-row
invariant-loop-row l = record {
  kept : l.kept.items
      ≡ filter (λ row. same_bool (meets l.test.columns l.test.condition (row_values l.old.places row)) false) l.yielded;
  released : in_use l.pool ≡ rows_released (in_use l.initial.pool)
      (filter (λ row. same_bool (meets l.test.columns l.test.condition (row_values l.old.places row)) true) l.yielded);
  page : l.pool.pool.page ≡ l.initial.pool.pool.page;
  long : l.pool.pool.long ≡ l.initial.pool.pool.long;
}
