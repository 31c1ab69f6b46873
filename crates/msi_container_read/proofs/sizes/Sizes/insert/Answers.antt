use Rattle.std.proofs.Common.{◌∙◌, ap}
use Rattle.std.specs.FinMap as finite
use Rattle.msi_container_format.proofs.NamesLemmas.{from_entries_updated}
use Rattle.msi_container_read.proofs.sizes.Sizes.insert.Goals as goal

pub returns-clause-ok : goal.returns-clause-ok
returns-clause-ok c =
    from_entries_updated c.self.inside.map.entries _ c.args.name c.args.size c.in_ok-insert.ensures.updates.0
    ∙ ap (λ m. finite.insert m c.args.name c.args.size) c.self.view_is
