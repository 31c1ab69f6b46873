use Rattle.std.proofs.Common.{◌≡◌, take}
use Rattle.msi_database_schema.specs.Description.{validation_rows}
use Rattle.msi_database_schema.proofs.description.validation_rows.Given as goal

abbrev pub invariant-loop-column : goal.invariant-loop-column
invariant-loop-column l = record {
  rows : l.rows.items ≡ validation_rows l.table (take l.column-index l.columns);
}
