use Rattle.std.proofs.Common.{◌≡◌, drop}
use Rattle.msi_database_changes.specs.Database.{are_alike}
use Rattle.msi_database_storage.proofs.soundness.are_alike.Given as goal

abbrev pub invariant-loop-i : goal.invariant-loop-i
invariant-loop-i l = are_alike l.columns l.others ≡ are_alike (drop l.i l.columns) (drop l.i l.others)
