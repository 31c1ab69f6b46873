use Rattle.std.proofs.Common.{◌≡◌, length}
use Rattle.msi_database_changes.proofs.row_changes.RowFitLemmas.{fits_from}
use Rattle.msi_database_changes.proofs.insert.row_fits.Given as goal

abbrev pub invariant-loop-i : goal.invariant-loop-i
invariant-loop-i l = record {
  passed : fits_from l.columns l.row l.i ≡ fits_from l.columns l.row 0;
  wide : length l.row ≡ length l.columns;
}
