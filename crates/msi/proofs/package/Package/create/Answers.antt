use Rattle.std.proofs.Common.{◌∙◌, Err, ap, subst}
use Rattle.std.specs.Prelude.{Ok}
use Rattle.msi_summary.specs.Summary.{new_summary}
use Rattle.msi_database.proofs.table_changes.CreatingLemmas.{error_passed}
use Rattle.msi.specs.Calls as calls
use Rattle.msi.specs.State.{State}
use Rattle.msi.specs.Flushing.{FlushStep, IsCreateRefused, over_device, told}
use Rattle.msi.proofs.packages.CreatingLemmas.{err_as, fresh_held, made_from, made_held, made_refused, made_state}
use Rattle.msi.proofs.package.Package.create.Goals as goal

pub invariant_of-package : goal.invariant_of-package
invariant_of-package g c = fresh_held c.in_ok-new.field-0 c.in_ok-new.ensures.ok

pub returns-in_err-flush-clause-refused : goal.returns-in_err-flush-clause-refused
returns-in_err-flush-clause-refused g c =
    err_as c.from_residual-in_err-flush.result (IsCreateRefused c.args.kind (told (g.F.Source.held c.args.inner) (g.F.Source.failed c.args.inner))) c.in_err-flush.field-0.0
    (made_refused c.args.kind (g.F.Source.held c.args.inner) (g.F.Source.failed c.args.inner) (g.F.Source.pending c.args.inner) c.flush.new.self c.in_err-flush.field-0.0
    (subst (λ (s : State). FlushStep (over_device s (g.F.Source.held c.args.inner) (g.F.Source.failed c.args.inner) (g.F.Source.pending c.args.inner)) (Err c.in_err-flush.field-0.0) c.flush.new.self)
    (made_from c.args.kind c.in_ok-new_summary.field-0 c.in_ok-new.field-0 c.new-2.result.bytes (c.in_ok-new_summary.ensures.ok ∙ ap new_summary c.title.ensures) c.in_ok-new.ensures.ok)
    c.in_err-flush.ensures.step))
    (error_passed c.from_residual-in_err-flush.result c.in_err-flush.field-0.0 c.from_residual-in_err-flush.ensures.1)

pub returns-clause-state : goal.returns-clause-state
returns-clause-state g c =
    made_state c.args.kind (g.F.Source.held c.args.inner) (g.F.Source.failed c.args.inner) (g.F.Source.pending c.args.inner) c.flush.new.self
    (subst (λ (s : State). FlushStep (over_device s (g.F.Source.held c.args.inner) (g.F.Source.failed c.args.inner) (g.F.Source.pending c.args.inner)) (Ok calls.done) c.flush.new.self)
    (made_from c.args.kind c.in_ok-new_summary.field-0 c.in_ok-new.field-0 c.new-2.result.bytes (c.in_ok-new_summary.ensures.ok ∙ ap new_summary c.title.ensures) c.in_ok-new.ensures.ok)
    c.in_ok-flush.ensures.step)

pub returns-clause-held : goal.returns-clause-held
returns-clause-held g c =
    made_held c.args.kind (g.F.Source.held c.args.inner) (g.F.Source.failed c.args.inner) (g.F.Source.pending c.args.inner) c.flush.new.self
    (subst (λ (s : State). FlushStep (over_device s (g.F.Source.held c.args.inner) (g.F.Source.failed c.args.inner) (g.F.Source.pending c.args.inner)) (Ok calls.done) c.flush.new.self)
    (made_from c.args.kind c.in_ok-new_summary.field-0 c.in_ok-new.field-0 c.new-2.result.bytes (c.in_ok-new_summary.ensures.ok ∙ ap new_summary c.title.ensures) c.in_ok-new.ensures.ok)
    c.in_ok-flush.ensures.step)
