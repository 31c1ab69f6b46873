use Rattle.std.proofs.Common.{◌∙◌, ap, sym}
use Rattle.msi_base.proofs.RefusalLemmas.{first_passed}
use Rattle.msi.specs.Steps.{flush_refusals}
use Rattle.msi.specs.Whole.{Whole}
use Rattle.msi.proofs.writing.FlushStepLemmas.{flush_nothing, pending_nothing, pending_written}
use Rattle.msi.proofs.writing.TextRefusalLemmas.{flush_first, nothing_first}
use Rattle.msi.proofs.package.Package.flush.Goals as goal

pub returns-then-not-self-clause-step : goal.returns-then-not-self-clause-step
returns-then-not-self-clause-step g c = flush_nothing c.args.self.now (ap (λ (w : Whole). w.state.is_unwritten) (sym c.self.view_is) ∙ c.if-not-self.true)

pub returns-then-not-self-clause-handed_on : goal.returns-then-not-self-clause-handed_on
returns-then-not-self-clause-handed_on g c = pending_nothing c.args.self.now (ap (λ (w : Whole). w.state.is_unwritten) (sym c.self.view_is) ∙ c.if-not-self.true)

pub returns-clause-handed_on : goal.returns-clause-handed_on
returns-clause-handed_on g c =
    pending_written c.args.self.now _ (ap (λ (w : Whole). w.state.is_unwritten) (sym c.self.view_is) ∙ c.if-not-self.false) c.in_ok-write_parts.ensures.handed_on

pub returns-then-not-self-clause-early : goal.returns-then-not-self-clause-early
returns-then-not-self-clause-early g c = nothing_first c.args.self.now _ (ap (λ (w : Whole). w.state.is_unwritten) (sym c.self.view_is) ∙ c.if-not-self.true)

pub returns-in_err-write_parts-clause-early : goal.returns-in_err-write_parts-clause-early
returns-in_err-write_parts-clause-early g c =
    first_passed _ (flush_refusals c.args.self.now.state) c.in_err-write_parts.field-0.0 c.from_residual.result c.from_residual.ensures.1
    (flush_first _ c.args.self.now c.self.view_is c.settle.new.database c.settle.ensures.database _ c.in_err-write_parts.ensures.early)

pub returns-clause-early : goal.returns-clause-early
returns-clause-early g c = flush_first _ c.args.self.now c.self.view_is c.settle.new.database c.settle.ensures.database _ c.in_ok-write_parts.ensures.early
