use Rattle.std.proofs.Common.{◌≡◌, map, take}
use Rattle.std.specs.List.{enumerate_from}
use Rattle.msi_database_schema.specs.Description.{column_row}
use Rattle.msi_database_schema.proofs.description.column_rows.Given as goal

abbrev pub invariant-loop-i : goal.invariant-loop-i
invariant-loop-i l = record {
  rows : l.rows.items ≡ map (column_row l.table) (enumerate_from 1 (take l.i l.columns));
}
