use Rattle.std.proofs.Common.{refl, sym, ◌∙◌}
use Rattle.msi_pool_places.proofs.TextJoiningLemmas.{finished}
use Rattle.msi_pool_places.proofs.joiner.TextJoiner.finish.Goals as goal

pub from_parts-requires : goal.from_parts-requires
from_parts-requires c = let all = finished c.args.self c.requires.joining c.requires.left in (rw (all.ends, all.counts) at c.requires.joining.front)

pub returns-clause-places : goal.returns-clause-places
returns-clause-places c = let all = finished c.args.self c.requires.joining c.requires.left in c.from_parts.ensures.places ∙ sym (rw (all.ends, all.counts) refl)
