use Rattle.std.proofs.Common.{rules, ◌≡◌, ◌∙◌, Some, sym}
use Rattle.msi_view.proofs.query_lemmas.TakenLemmas.{database_given, database_refused}
use Rattle.msi_view.proofs.view.View.database.Goals as goal

pub returns-clause-ok : goal.returns-clause-ok
returns-clause-ok g c =
    let whole : c.self.inside.container ≡ c.args.self.now = search rules in
    let taken : c.look_at_all.new.catalog ≡ Some c.in-Some.catalog = sym c.take.ensures.value ∙ c.in-Some.is in
    rw (← whole) (database_given c.self.inside.container c.look_at_all.new.container c.look_at_all.new.catalog c.in-Some.catalog taken c.look_at_all.ensures.look c.look_at_all.ensures.reads
    c.into_database.result c.in_ok-look_at_all.ensures.loaded c.into_database.ensures.read c.into_database.ensures.streams)

pub returns-clause-kind : goal.returns-clause-kind
returns-clause-kind g c =
    let whole : c.self.inside.container ≡ c.args.self.now = search rules in
    let taken : c.look_at_all.new.catalog ≡ Some c.in-Some.catalog = sym c.take.ensures.value ∙ c.in-Some.is in
    rw (← whole) (database_refused c.self.inside.container c.look_at_all.new.container c.look_at_all.new.catalog c.in-Some.catalog taken c.look_at_all.ensures.look c.look_at_all.ensures.reads
    c.into_database.result g.S.Source.can_fail c.into_database.ensures.kind)
