use Rattle.std.proofs.Common.{rules, ◌≡◌, inl}
use Rattle.std.proofs.lemmas.Result.{err_from_is_err_and}
use Rattle.msi_view.specs.Looking.{table_steps}
use Rattle.msi_view.proofs.SelectLemmas.{rows_given, rows_refused}
use Rattle.msi_view.proofs.view.View.select_rows.Goals as goal

pub returns-in_err-look_for-clause-kind : goal.returns-in_err-look_for-clause-kind
returns-in_err-look_for-clause-kind g c =
    let p = err_from_is_err_and c.from_residual.result c.from_residual.ensures.1 in
    let whole : c.self.inside.container ≡ c.args.self.now = search rules in
    rw (p.1, p.2, ← whole) (inl c.in_err-look_for.ensures.kind)

pub returns-clause-ok : goal.returns-clause-ok
returns-clause-ok g c =
    let whole : c.self.inside.container ≡ c.args.self.now = search rules in
    let pool : c.catalog.inside.pool.places ≡ c.in-Some.catalog.pool.places = search rules in
    rw (← whole) (rows_given c.self.inside.container c.look_for.new.container c.look_for.new.catalog c.in-Some.catalog c.args.query.now _ c.look_for.ensures.reads c.look_for.ensures.look c.in-Some.is c.in_ok-look_for.ensures.loaded c.select_rows.result (rw pool at c.select_rows.ensures.ok))

pub returns-clause-kind : goal.returns-clause-kind
returns-clause-kind g c =
    let whole : c.self.inside.container ≡ c.args.self.now = search rules in
    let pool : c.catalog.inside.pool.places ≡ c.in-Some.catalog.pool.places = search rules in
    rw (← whole) (rows_refused c.self.inside.container c.look_for.new.container c.look_for.new.catalog c.in-Some.catalog c.args.query.now _ c.look_for.ensures.reads c.look_for.ensures.look c.in-Some.is c.in_ok-look_for.ensures.loaded c.select_rows.result g.S.Source.can_fail table_steps (rw pool at c.select_rows.ensures.kind))
