use Rattle.std.proofs.Common.{subst, sym}
use Rattle.msi_database_storage.specs.Kept.{AreAsLong}
use Rattle.msi_database.proofs.database.Database.base.Goals as goal

pub new-requires-clause-names : goal.new-requires-clause-names
new-requires-clause-names c = c.self.invariant.kept.names

pub new-requires-clause-long : goal.new-requires-clause-long
new-requires-clause-long c = subst (AreAsLong c.self.inside.pool.long) (sym c.as_slice.ensures) c.self.invariant.as_long
