use Rattle.std.proofs.Common.{rules, ◌≡◌}
use Rattle.msi_view.proofs.ViewLemmas.{known_on}
use Rattle.msi_view.proofs.view.View.load_rows.Goals as goal

pub returns-clause-ok : goal.returns-clause-ok
returns-clause-ok g c =
    let whole : c.self.inside.container ≡ c.args.self.now = search rules in
    rw (← whole) (known_on c.look_for.result c.self.inside.container c.look_for.new.container c.look_for.new.catalog _ c.look_for.ensures.reads c.look_for.ensures.look c.look_for.ensures.there)
