use Rattle.std.specs.Vec.Iter.{into_iter_len}
use Rattle.msi_database_changes.proofs.storing.+store_all.Given as goal

abbrev pub decreases-store_all : goal.decreases-store_all
decreases-store_all l = into_iter_len l.changes
