use Rattle.std.proofs.Common.{ap, arith, length}
use Rattle.msi_pool_places.proofs.TextJoiningLemmas.{length-entries}
use Rattle.msi_pool_places.proofs.entries.Entries.len.Goals as goal

pub returns : goal.returns
returns c = omega (arith, c.len.ensures, c.self.inside.counts.ok.0, length-entries c.self.inside.lens c.self.inside.counts.items c.self.invariant, ap length c.self.view_is)
