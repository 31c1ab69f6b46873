use Rattle.std.proofs.Common.{◌≡◌, ◌-◌, drop, length, map}
use Rattle.std.specs.FinMap.{entries}
use Rattle.msi_table_cells.specs.CellValues.{row_values}
use Rattle.msi_transform_pair.specs.Pair.{by_keys, told_row}
use Rattle.msi_transform_pair.proofs.reading.rows_by_keys.Given as goal

abbrev pub invariant-loop-i : goal.invariant-loop-i
invariant-loop-i l = record {
  rows : entries l.rows ≡ by_keys (map (told_row l.base.kept l.table l.columns l.added) (map (row_values l.base.kept.database.pool.places) (drop (length l.cells - l.i) l.cells)));
}
