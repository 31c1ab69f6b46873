use Rattle.std.proofs.Common.{◌≡◌, List, drop, map, true}
use Rattle.msi_table_values.specs.Columns.{ColumnDef}
use Rattle.msi_database_changes.specs.Texts.{in_use}
use Rattle.msi_database_changes.specs.Setting.{cells_set, index_of}
use Rattle.msi_database_changes.proofs.setting.set_cells.Given as goal

abbrev pub invariant-loop-i : goal.invariant-loop-i
invariant-loop-i l = record {
  far : (columns : List ColumnDef) → l.places ≡ map (index_of columns) l.sets
      → cells_set true columns (in_use l.initial.pool) l.initial.row.items l.sets
      ≡ cells_set true columns (in_use l.pool) l.row.items (drop l.i l.sets);
  page : l.pool.pool.page ≡ l.initial.pool.pool.page;
  long : l.pool.pool.long ≡ l.initial.pool.pool.long;
}
