use Rattle.std.proofs.Common.{◌≡◌, map, take}
use Rattle.msi_database_changes.specs.Insert.{whole_row}
use Rattle.msi_database_changes.proofs.naming.named_rows.Given as goal

abbrev pub invariant-loop-row : goal.invariant-loop-row
invariant-loop-row l = record {
  made : l.values.items ≡ map (whole_row l.columns l.names) (take l.row-index l.rows);
}
