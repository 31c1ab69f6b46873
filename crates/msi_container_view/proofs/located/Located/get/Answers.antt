use Rattle.std.proofs.Common.{◌∙◌, ap, sym}
use Rattle.std.specs.FinMap as finite
use Rattle.msi_container_format.proofs.NamesLemmas.{get_is_lookup}
use Rattle.msi_container_view.proofs.located.Located.get.Goals as goal

pub returns : goal.returns
returns c =
    c.get.ensures.value
    ∙ sym (get_is_lookup c.self.inside.map.entries c.args.name.now)
    ∙ ap (λ m. finite.get m c.args.name.now) c.self.view_is
