use Rattle.std.proofs.Common.{◌≡◌, ◌++◌}
use Rattle.std.specs.FinMap.{entries}
use Rattle.msi_transform_pair.proofs.SchemaLemmas.{rows_named}
use Rattle.msi_transform_pair.proofs.described.described_columns.Given as goal

abbrev pub invariant-loop-row : goal.invariant-loop-row
invariant-loop-row l = record {
  whole : l.rows.items ++ rows_named l.name l.row-iterator ≡ rows_named l.name (entries l.described);
}
