use Rattle.std.proofs.Common.{ℕ, ◌≡◌, ◌∙◌, Some, None, Vec, Global, option_map, ap, sym}
use Rattle.std.specs.FinMap.{get}
use Rattle.msi_container_view.specs.Views.{streams_at}
use Rattle.msi_view.specs.Looking.{root_in}
use Rattle.msi_view.proofs.loading_lemmas.LoadedLemmas.{loaded_before, loaded_without, loaded_now, loaded_still, streams_with}
use Rattle.msi_view.proofs.loading.load.Goals as goal

pub returns-then-contains-clause-loaded : goal.returns-then-contains-clause-loaded
returns-then-contains-clause-loaded g c = λ file told are.
    loaded_before (root_in file c.args.container.now) c.args.streams.now c.args.name (sym c.contains.ensures ∙ c.if-contains.true) are

pub returns-in_ok-insert-in-Some-clause-streams : goal.returns-in_ok-insert-in-Some-clause-streams
returns-in_ok-insert-in-Some-clause-streams g c = λ file told are.
    let read : Some c.from_vec.result ≡ get (streams_at file c.args.container.now.streams) c.args.name =
    ap Some c.from_vec.ensures ∙ ap (option_map (λ (v : Vec ℕ Global). v.items)) (sym c.in-Some.is) ∙ c.in_ok-bytes.ensures.ok file told in
    rw c.in_ok-insert-in-Some.ensures.ok (streams_with (streams_at file c.args.container.now.streams) c.args.streams.now c.args.name c.from_vec.result read are)

pub returns-in_ok-insert-in-Some-clause-loaded : goal.returns-in_ok-insert-in-Some-clause-loaded
returns-in_ok-insert-in-Some-clause-loaded g c = λ file told are.
    let read : Some c.from_vec.result ≡ get (streams_at file c.args.container.now.streams) c.args.name =
    ap Some c.from_vec.ensures ∙ ap (option_map (λ (v : Vec ℕ Global). v.items)) (sym c.in-Some.is) ∙ c.in_ok-bytes.ensures.ok file told in
    rw c.in_ok-insert-in-Some.ensures.ok (loaded_now (streams_at file c.args.container.now.streams) c.args.streams.now c.args.name c.from_vec.result read)

pub returns-in_ok-insert-in-Some-clause-others : goal.returns-in_ok-insert-in-Some-clause-others
returns-in_ok-insert-in-Some-clause-others g c = λ file told other is.
    let read : Some c.from_vec.result ≡ get (streams_at file c.args.container.now.streams) c.args.name =
    ap Some c.from_vec.ensures ∙ ap (option_map (λ (v : Vec ℕ Global). v.items)) (sym c.in-Some.is) ∙ c.in_ok-bytes.ensures.ok file told in
    rw c.in_ok-insert-in-Some.ensures.ok (loaded_still (streams_at file c.args.container.now.streams) c.args.streams.now c.args.name c.from_vec.result read other is)

pub returns-in-None-clause-loaded : goal.returns-in-None-clause-loaded
returns-in-None-clause-loaded g c = λ file told are.
    let none : None ≡ get (streams_at file c.args.container.now.streams) c.args.name =
    ap (option_map (λ (v : Vec ℕ Global). v.items)) (sym c.in-None.is) ∙ c.in_ok-bytes.ensures.ok file told in
    loaded_without (streams_at file c.args.container.now.streams) c.args.streams.now c.args.name (sym c.contains.ensures ∙ c.if-contains.false) none
