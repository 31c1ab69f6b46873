use Rattle.std.proofs.Common.{◌≡◌, drop, zip}
use Rattle.std.specs.List.{fold}
use Rattle.msi_table_values.specs.Columns.{types_of}
use Rattle.msi_transform_rows.specs.RowStreams.{told_beside, told_by_row}
use Rattle.msi_transform_rows.proofs.row_streams.told_by_row.Given as goal

abbrev pub invariant-loop-i : goal.invariant-loop-i
invariant-loop-i l = record {
  whole : fold told_beside l.told (zip (types_of (drop l.i l.columns)) (drop l.i l.cells)) ≡ told_by_row l.columns l.cells;
}
