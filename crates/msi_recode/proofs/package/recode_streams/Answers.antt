use Rattle.std.proofs.Common.{ap, inl}
use Rattle.std.proofs.lemmas.Result.{err_from_is_err_and}
use Rattle.msi_recode.specs.declared.errors.RecodeError.TheVariants as error
use Rattle.msi_recode.proofs.package.recode_streams.Goals as goal

pub returns-in_err-texts-clause-exact : goal.returns-in_err-texts-clause-exact
returns-in_err-texts-clause-exact c =
    let p = err_from_is_err_and c.from_residual.result c.from_residual.ensures.1 in
    rw (p.1, p.2) c.in_err-texts.ensures.exact

pub returns-in_err-with_texts-clause-exact : goal.returns-in_err-with_texts-clause-exact
returns-in_err-with_texts-clause-exact c =
    let p = err_from_is_err_and c.from_residual-in_err-with_texts.result c.from_residual-in_err-with_texts.ensures.1 in
    rw (p.1, p.2) (inl (ap (λ k. error.Package k) c.in_err-with_texts.ensures.kind))
