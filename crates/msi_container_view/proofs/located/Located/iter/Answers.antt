use Rattle.std.proofs.Common.{◌∙◌, ap, sym, length}
use Rattle.std.specs.FinMap as finite
use Rattle.msi_container_format.proofs.NamesLemmas.{entries-from_entries, len-from_entries}
use Rattle.msi_container_view.proofs.located.Located.iter.Goals as goal

pub returns-clause-rest : goal.returns-clause-rest
returns-clause-rest c = c.iter.ensures.rest ∙ sym (entries-from_entries c.self.inside.map.entries c.iter.ensures.ordered) ∙ ap finite.entries c.self.view_is

pub returns-clause-len : goal.returns-clause-len
returns-clause-len c = ap length c.iter.ensures.rest ∙ sym (len-from_entries c.self.inside.map.entries c.iter.ensures.ordered) ∙ ap finite.len c.self.view_is
