use Rattle.std.proofs.Common.{◌≡◌}
use Rattle.msi_database_changes.specs.Views.{seen_row}
use Rattle.msi_transform_making.specs.Making.{marked_values, tells_stream}
use Rattle.msi_transform_making.proofs.SideLemmas.{marked_from}
use Rattle.msi_transform_making.proofs.record.tells_stream.Given as goal

abbrev pub invariant-loop-i : goal.invariant-loop-i
invariant-loop-i l = record { same : tells_stream (marked_from l.columns l.marked l.values l.i) ≡ tells_stream (marked_values l.columns l.marked (seen_row l.values)) }
