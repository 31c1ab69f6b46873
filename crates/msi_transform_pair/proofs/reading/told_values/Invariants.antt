use Rattle.std.proofs.Common.{◌≡◌, ◌++◌}
use Rattle.msi_database_changes.specs.Views.{seen_row}
use Rattle.msi_transform_pair.specs.Pair.{told_values}
use Rattle.msi_transform_pair.proofs.BesideLemmas.{told_from}
use Rattle.msi_transform_pair.proofs.reading.told_values.Given as goal

abbrev pub invariant-loop-i : goal.invariant-loop-i
invariant-loop-i l = record { whole : seen_row l.told.items ++ told_from l.there l.columns l.values l.i ≡ told_values l.there l.columns (seen_row l.values) }
