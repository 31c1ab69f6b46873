use Rattle.std.proofs.Common.{rules, ◌≡◌}
use Rattle.msi_view.proofs.ViewLemmas.{known_on}
use Rattle.msi_view.proofs.view.View.load_tables.Goals as goal

pub returns-clause-ok : goal.returns-clause-ok
returns-clause-ok g c =
    let whole : c.self.inside.container ≡ c.args.self.now = search rules in
    rw (← whole) (known_on c.look.result c.self.inside.container c.look.new.container c.look.new.catalog _ c.look.ensures.reads c.look.ensures.look c.look.ensures.there)
