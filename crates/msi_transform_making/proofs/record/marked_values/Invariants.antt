use Rattle.std.proofs.Common.{◌≡◌, ◌++◌, map}
use Rattle.msi_database_changes.specs.Views.{seen_row}
use Rattle.msi_transform_making.specs.Making.{marked_values}
use Rattle.msi_transform_making.proofs.SideLemmas.{marked_from}
use Rattle.msi_transform_making.proofs.record.marked_values.Given as goal

abbrev pub invariant-loop-i : goal.invariant-loop-i
invariant-loop-i l = record {
  whole : seen_row l.told.items ++ map (λ e. e.1) (marked_from l.columns l.marked l.values l.i) ≡ map (λ e. e.1) (marked_values l.columns l.marked (seen_row l.values));
}
