use Rattle.std.proofs.Common.{◌≡◌, ℕ, ◌+◌, ◌<◌, List, [], ◌∷◌, ◌++◌, length, get_or, take, sym, ap, ◌∙◌, arith}
use Rattle.std.proofs.lemmas.Grind.{common_steps}
use Rattle.std.proofs.lemmas.List.{take_more}
use Rattle.std.proofs.lemmas.Result.{IfOk-from_err}
use Rattle.msi_base.specs.declared.errors.ErrorKind.TheVariants.{OutOfMemory}
use Rattle.msi_base.proofs.ResultLemmas.{if_err_from}
use Rattle.msi_pool_places.proofs.numbers.widened.Goals as goal

one_more : (wide numbers narrow : List ℕ) (i : ℕ) → numbers ≡ narrow → wide ≡ take i narrow → i < length numbers → wide ++ get_or numbers i 0 ∷ [] ≡ take (i + 1) narrow
one_more wide numbers narrow i same so_far within =
    ap (λ front. front ++ get_or numbers i 0 ∷ []) (so_far ∙ ap (take i) (sym same)) ∙ sym (take_more numbers i 0 within) ∙ ap (take (i + 1)) same

pub loop-number-preserved : goal.loop-number-preserved
loop-number-preserved c = c.in_ok-push.ensures.items ∙ one_more _ _ _ _ c.deref-number-items.ensures.value c.loop-number.invariant c.loop-number-test.true

pub returns-in_err-push-clause-ok : goal.returns-in_err-push-clause-ok
returns-in_err-push-clause-ok c = IfOk-from_err _ _ c.from_residual-in_err-push.ensures.0

pub returns-in_err-push-clause-kind : goal.returns-in_err-push-clause-kind
returns-in_err-push-clause-kind c = if_err_from c.from_residual-in_err-push.result (λ e. e ≡ OutOfMemory) c.from_residual-in_err-push.ensures.1

pub returns-clause-ok : goal.returns-clause-ok
returns-clause-ok c = grind (arith, common_steps)
