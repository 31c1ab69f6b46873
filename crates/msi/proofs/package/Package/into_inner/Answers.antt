use Rattle.msi_base.specs.Refusals.{first_refusal}
use Rattle.msi.specs.Steps.{flush_refusals}
use Rattle.msi.proofs.writing.TextRefusalLemmas.{first_handed}
use Rattle.msi.proofs.package.Package.into_inner.Goals as goal

pub returns-in-Err-clause-early : goal.returns-in-Err-clause-early
returns-in-Err-clause-early g c = first_handed _ (first_refusal (flush_refusals c.args.self.state)) _ c.in-Err.error c.in-Err.ensures.early (λ kind e. e)
