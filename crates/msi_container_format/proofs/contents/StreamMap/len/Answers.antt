use Rattle.std.proofs.Common.{◌∙◌, ap, sym}
use Rattle.std.specs.FinMap as finite
use Rattle.msi_container_format.proofs.NamesLemmas.{len-from_entries}
use Rattle.msi_container_format.proofs.contents.StreamMap.len.Goals as goal

pub returns : goal.returns
returns c = c.len.ensures.len ∙ sym (len-from_entries c.self.inside.map.entries c.len.ensures.ordered) ∙ ap finite.len c.self.view_is
