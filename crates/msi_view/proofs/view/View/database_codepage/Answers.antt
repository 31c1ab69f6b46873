use Rattle.std.proofs.Common.{rules, ◌≡◌}
use Rattle.msi_view.proofs.ViewLemmas.{look_found}
use Rattle.msi_view.proofs.view.View.database_codepage.Goals as goal

pub returns-in-Some-clause-ok : goal.returns-in-Some-clause-ok
returns-in-Some-clause-ok g c = λ file told.
    let whole : c.self.inside.container ≡ c.args.self.now = search rules in
    let page : c.codepage.result ≡ c.in-Some.catalog.pool.page = search rules in
    let known = look_found c.self.inside.container c.self.inside.catalog c.in-Some.catalog c.self.invariant c.in-Some.is file (rw whole told) in
    (c.in-Some.catalog.pool, rw (← whole) known.0.pools, page)
