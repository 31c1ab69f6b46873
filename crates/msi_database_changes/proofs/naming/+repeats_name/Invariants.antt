use Rattle.std.proofs.Common.{length}
use Rattle.msi_database_changes.proofs.naming.+repeats_name.Given as goal

abbrev pub decreases-repeats_name : goal.decreases-repeats_name
decreases-repeats_name l = length l.names.now
