use Rattle.std.proofs.Common.{◌∙◌, ap, sym}
use Rattle.std.specs.FinMap as finite
use Rattle.msi_container_format.proofs.NamesLemmas.{from_entries_removed, get_is_lookup}
use Rattle.msi_container_format.proofs.contents.StreamMap.remove.Goals as goal

pub returns-clause-held : goal.returns-clause-held
returns-clause-held c =
    c.remove.ensures.value
    ∙ sym (get_is_lookup c.self.inside.map.entries c.args.name.now)
    ∙ ap (λ m. finite.get m c.args.name.now) c.self.view_is

pub returns-clause-gone : goal.returns-clause-gone
returns-clause-gone c =
    from_entries_removed c.self.inside.map.entries _ c.args.name.now c.remove.ensures.updates.0
    ∙ ap (λ m. finite.remove m c.args.name.now) c.self.view_is
