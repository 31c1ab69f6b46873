use Rattle.std.proofs.Common.{◌≡◌}
use Rattle.std.specs.Prelude.{fold}
use Rattle.msi_table_cells.specs.CellValues.{row_values}
use Rattle.msi_table_cells.specs.KeyOrder.{key_of}
use Rattle.msi_transform_pair.specs.Fingerprints.{fingerprint, with_value}
use Rattle.msi_transform_pair.proofs.FingerprintLemmas.{key_rest}
use Rattle.msi_transform_pair.proofs.fingerprints.fingerprint_of_row.Given as goal

abbrev pub invariant-loop-i : goal.invariant-loop-i
invariant-loop-i l = record {
  same : fold with_value l.print (key_rest l.pool.places l.columns l.row l.i) ≡ fingerprint (key_of l.columns (row_values l.pool.places l.row));
}
