use Rattle.std.proofs.Common.{◌≡◌, List, map, take}
use Rattle.msi_table_values.specs.Columns.{ColumnDef}
use Rattle.msi_database_changes.specs.Setting.{index_of, values_set}
use Rattle.msi_database_changes.specs.Views.{seen_row}
use Rattle.msi_database_changes.proofs.setting.set_views.Given as goal

abbrev pub invariant-loop-i : goal.invariant-loop-i
invariant-loop-i l = record {
  set : (columns : List ColumnDef) → l.places ≡ map (index_of columns) l.sets
      → seen_row l.row.items ≡ values_set columns (take l.i l.sets) (seen_row l.initial.row.items);
}
