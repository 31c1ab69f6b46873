use Rattle.std.proofs.Common.{rules, ◌≡◌}
use Rattle.msi_view.proofs.ViewLemmas.{looked}
use Rattle.msi_view.proofs.view.View.tables.Goals as goal

pub returns-clause-ok : goal.returns-clause-ok
returns-clause-ok g c = λ file told.
    let whole : c.self.inside.container ≡ c.args.self.now = search rules in
    let tables : c.as_slice.result.now ≡ c.in-Some.catalog.tables = search rules in
    let known = looked c.self.inside.container c.look.new.container c.look.new.catalog c.in-Some.catalog _ c.look.ensures.reads c.look.ensures.look c.in-Some.is file (rw whole told) in
    (c.in-Some.catalog.pool, rw (tables, ← whole) known.0)
