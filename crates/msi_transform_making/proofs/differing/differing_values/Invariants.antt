use Rattle.std.proofs.Common.{◌≡◌, ◌++◌}
use Rattle.msi_database_changes.specs.Views.{seen_row}
use Rattle.msi_transform_making.specs.Making.{differing_values}
use Rattle.msi_transform_making.proofs.SideLemmas.{differing_from}
use Rattle.msi_transform_making.proofs.differing.differing_values.Given as goal

abbrev pub invariant-loop-i : goal.invariant-loop-i
invariant-loop-i l = record { whole : l.columns.items ++ differing_from l.same l.old l.new l.i ≡ differing_values l.same (seen_row l.old) (seen_row l.new) }
