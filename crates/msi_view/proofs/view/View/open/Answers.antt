use Rattle.std.proofs.lemmas.Result.{err_from_is_err_and}
use Rattle.msi_view.proofs.ViewLemmas.{refused}
use Rattle.msi_view.proofs.view.View.open.Goals as goal

pub returns-in_err-open-clause-invalid : goal.returns-in_err-open-clause-invalid
returns-in_err-open-clause-invalid g c = λ broken.
    let p = err_from_is_err_and c.from_residual.result c.from_residual.ensures.1 in
    c.in_err-open.ensures.invalid (refused _ _ _ p.1 p.2 broken)
