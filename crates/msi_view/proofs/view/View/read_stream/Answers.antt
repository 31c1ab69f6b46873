use Rattle.std.proofs.Common.{rules, ◌≡◌, List, ℕ, [], Option, is_some, true, unwrap_or, sym, subst}
use Rattle.msi_base.specs.Faults.{AppendsPart}
use Rattle.std.specs.Io.KnownBytes.{Appends}
use Rattle.msi_database_schema.specs.Keys.{stream_key}
use Rattle.msi_container_view.specs.Views.{extents_at}
use Rattle.msi_view.proofs.ViewLemmas.{copied_part, look_kept, on_failed, part_all, stream_found}
use Rattle.msi_view.proofs.view.View.read_stream.Goals as goal

pub invariant_of-self : goal.invariant_of-self
invariant_of-self g c = look_kept _ _ c.self.inside.catalog _ c.copy.ensures.same c.self.invariant

pub invariant_of-self-then-not-branch : goal.invariant_of-self-then-not-branch
invariant_of-self-then-not-branch g c = look_kept _ _ c.self.inside.catalog _ c.copy.ensures.same c.self.invariant

pub invariant_of-self-2 : goal.invariant_of-self-2
invariant_of-self-2 g c = look_kept _ _ c.self.inside.catalog _ c.copy.ensures.same c.self.invariant

pub returns-clause-ok : goal.returns-clause-ok
returns-clause-ok g c = λ file told.
    let v = c.args.self.now in
    let key : c.in_ok-key.key ≡ stream_key c.args.name.now = search rules in
    let same : c.self.inside.container ≡ v = search rules in
    let there : is_some (extents_at (stream_key c.args.name.now) v.streams) ≡ true = search rules in
    copied_part file v (stream_key c.args.name.now) (λ bytes. Appends (g.W.Write.contents c.args.to.now) (g.W.Write.contents c.copy.new.to) bytes) there
    (rw (← key) (rw same at (c.in_ok-copy.ensures.ok file (rw same told))))

pub returns-in_err-copy-clause-part : goal.returns-in_err-copy-clause-part
returns-in_err-copy-clause-part g c = on_failed c.from_residual-in_err-copy.result (λ file told.
    let key : c.in_ok-key.key ≡ stream_key c.args.name.now = search rules in
    let same : c.self.inside.container ≡ c.args.self.now = search rules in
    subst (λ (o : Option (List ℕ)). AppendsPart (g.W.Write.contents c.args.to.now) (g.W.Write.contents c.copy.new.to) (unwrap_or o []))
    (sym (stream_found file c.args.self.now (stream_key c.args.name.now)))
    (rw (← key) (rw same at (c.in_err-copy.ensures.part file (rw same told)))))

pub returns-then-not-branch-clause-part : goal.returns-then-not-branch-clause-part
returns-then-not-branch-clause-part g c = λ file told.
    let key : c.in_ok-key.key ≡ stream_key c.args.name.now = search rules in
    let same : c.self.inside.container ≡ c.args.self.now = search rules in
    subst (λ (o : Option (List ℕ)). AppendsPart (g.W.Write.contents c.args.to.now) (g.W.Write.contents c.copy.new.to) (unwrap_or o []))
    (sym (stream_found file c.args.self.now (stream_key c.args.name.now)))
    (part_all (g.W.Write.contents c.args.to.now) (g.W.Write.contents c.copy.new.to) _ (rw (← key) (rw same at (c.in_ok-copy.ensures.ok file (rw same told)))))
