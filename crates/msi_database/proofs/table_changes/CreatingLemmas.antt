-- Why a new table is refused: behind a test that passed, and before others.
use Rattle.std.proofs.Common.{◌≡◌, Bool, true, false, not, Result, Ok, [], ◌∷◌, ◌++◌, Err, sym, ap}
use Rattle.std.specs.Prelude.{IsErrAnd}
use Rattle.msi_base.specs.declared.errors.ErrorKind.{ErrorKind}
use Rattle.msi_base.specs.Refusals.{Refusals, unless_refused}
use Rattle.msi_database_changes.proofs.steps.RefusedLemmas.{first_refused, front_holds, refused_first}

pub error_passed : {A : Type 0} (r : Result A ErrorKind) (k : ErrorKind) → IsErrAnd r (λ e. e ≡ k) → r ≡ Err k
error_passed (Ok x) k h = absurd h
error_passed (Err l) k h = ap Err h

pub refused_behind_sound : (b : Bool) (kind : ErrorKind) (rs ss : Refusals) (k : ErrorKind) (x : Unit {0}) → Ok x ≡ unless_refused ((not b, kind) ∷ []) tt → Err k ≡ unless_refused {A = Unit {0}} rs tt
    → Err k ≡ unless_refused {A = Unit {0}} ((not b, kind) ∷ rs ++ ss) tt
refused_behind_sound true kind rs ss k x passed e = sym (first_refused (rs ++ ss) tt k (front_holds rs ss k (refused_first rs tt k (sym e))))
refused_behind_sound false kind rs ss k x passed e = absurd cc
