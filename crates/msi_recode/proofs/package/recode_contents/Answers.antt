use Rattle.std.proofs.lemmas.Result.{err_from_is_err_and}
use Rattle.msi_recode.proofs.PackageLemmas.{contents_only, streams_refused}
use Rattle.msi_recode.proofs.package.recode_contents.Goals as goal

pub returns-in_err-streams-clause-only : goal.returns-in_err-streams-clause-only
returns-in_err-streams-clause-only c = λ after recoded.
    let p = err_from_is_err_and c.from_residual.result c.from_residual.ensures.1 in
    rw (p.1, p.2) (contents_only c.args.given c.args.contents after c.in_err-streams.field-0.0 c.in_err-streams.ensures.exact recoded)

pub returns-in_err-streams-clause-exact : goal.returns-in_err-streams-clause-exact
returns-in_err-streams-clause-exact c =
    let p = err_from_is_err_and c.from_residual.result c.from_residual.ensures.1 in
    rw (p.1, p.2) c.in_err-streams.ensures.exact

pub returns-in_err-streams-clause-refused : goal.returns-in_err-streams-clause-refused
returns-in_err-streams-clause-refused c =
    let p = err_from_is_err_and c.from_residual.result c.from_residual.ensures.1 in
    rw (p.1, p.2) (streams_refused c.args.given c.args.contents.streams c.in_err-streams.field-0.0 c.in_err-streams.ensures.exact)
