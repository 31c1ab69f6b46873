use Rattle.std.specs.Prelude.{Err}
use Rattle.std.proofs.Common.{ap, inl}
use Rattle.std.proofs.lemmas.Result.{err_from_is_err_and}
use Rattle.msi_recode.specs.declared.errors.RecodeError.TheVariants as error
use Rattle.msi_recode.proofs.SummaryErrorLemmas.{summary_only, summary_refused, unwritten_memory, memory_valid}
use Rattle.msi_recode.proofs.SummarySetLemmas.{summary_writable}
use Rattle.msi_recode.proofs.summary.recode_summary.Goals as goal

pub returns-clause-ok : goal.returns-clause-ok
returns-clause-ok c =
    let is = c.in_ok-set.ensures.ok in (
      c.in_ok-set.set,
      is.0,
      is.1,
      c.in_ok-stream_of.ensures.ok,
      c.in_ok-stream_of.ensures.spelled (summary_writable c.args.given c.args.bytes.now c.in_ok-set.set is.0 c.is_writable-writable.ensures.utf8),
    )

pub returns-in_err-set-clause-only : goal.returns-in_err-set-clause-only
returns-in_err-set-clause-only c = λ after recoded.
    let p = err_from_is_err_and c.from_residual.result c.from_residual.ensures.1 in
    rw (p.1, p.2) (summary_only c.args.given c.args.bytes.now after c.in_err-set.field-0.0 c.in_err-set.ensures.exact recoded)

pub returns-in_err-set-clause-exact : goal.returns-in_err-set-clause-exact
returns-in_err-set-clause-exact c =
    let p = err_from_is_err_and c.from_residual.result c.from_residual.ensures.1 in
    rw (p.1, p.2) c.in_err-set.ensures.exact

pub returns-in_err-set-clause-refused : goal.returns-in_err-set-clause-refused
returns-in_err-set-clause-refused c =
    let p = err_from_is_err_and c.from_residual.result c.from_residual.ensures.1 in
    rw (p.1, p.2) (summary_refused c.args.given c.args.bytes.now c.in_err-set.field-0.0 c.in_err-set.ensures.exact)

pub returns-in_err-stream_of-clause-only : goal.returns-in_err-stream_of-clause-only
returns-in_err-stream_of-clause-only c = λ after recoded.
    let p = err_from_is_err_and c.from_residual-in_err-stream_of.result c.from_residual-in_err-stream_of.ensures.1 in
    rw (p.1, p.2) (unwritten_memory c.in_err-stream_of.field-0.0 c.in_ok-set.set c.in_err-stream_of.ensures.kinds (λ invalid. c.in_err-stream_of.ensures.refused.0 (ap Err invalid)) c.in_ok-set.ensures.written)

pub returns-in_err-stream_of-clause-exact : goal.returns-in_err-stream_of-clause-exact
returns-in_err-stream_of-clause-exact c =
    let p = err_from_is_err_and c.from_residual-in_err-stream_of.result c.from_residual-in_err-stream_of.ensures.1 in
    rw (p.1, p.2) (inl (ap (λ k. error.Package k) (unwritten_memory c.in_err-stream_of.field-0.0 c.in_ok-set.set c.in_err-stream_of.ensures.kinds (λ invalid. c.in_err-stream_of.ensures.refused.0 (ap Err invalid)) c.in_ok-set.ensures.written)))

pub returns-in_err-stream_of-clause-refused : goal.returns-in_err-stream_of-clause-refused
returns-in_err-stream_of-clause-refused c =
    let p = err_from_is_err_and c.from_residual-in_err-stream_of.result c.from_residual-in_err-stream_of.ensures.1 in
    rw (p.1, p.2) (λ invalid. memory_valid c.in_err-stream_of.field-0.0 (unwritten_memory c.in_err-stream_of.field-0.0 c.in_ok-set.set c.in_err-stream_of.ensures.kinds (λ input. c.in_err-stream_of.ensures.refused.0 (ap Err input)) c.in_ok-set.ensures.written) invalid)
