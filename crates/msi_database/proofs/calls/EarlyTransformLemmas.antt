-- What refuses a transform before memory is taken: calls whose errors say more than a kind.
use Rattle.std.proofs.Common.{◌≡◌, Option, Some, None, ◌++◌, Result, Ok, Err, sym, ap, subst}
use Rattle.std.specs.Prelude.{IfSome, IsErrAnd}
use Rattle.msi_base.specs.declared.errors.ErrorKind.{ErrorKind}
use Rattle.msi_base.specs.Refusals.{Refusals, first_refusal, unless_refused}
use Rattle.msi_transform_pair.proofs.FitnessLemmas.{after_passed, stopped}
use Rattle.msi_database.proofs.calls.EarlyCallLemmas.{first_where_err, none_where_ok}

-- a check's result: it was passed, or refused
abbrev pub Passed : Refusals → Unit {0} → Type 0
Passed rs x = ◌≡◌ {A = Result (Unit {0}) ErrorKind} (Ok x) (unless_refused rs tt)

abbrev pub Stopped : Refusals → ErrorKind → Type 0
Stopped rs k = ◌≡◌ {A = Result (Unit {0}) ErrorKind} (Err k) (unless_refused rs tt)

-- an error that a call gives
error_is : {B R : Type 0} (r : Result B R) (error : R) → IsErrAnd r (λ e. e ≡ error) → r ≡ Err error
error_is (Ok x) error h = absurd h
error_is (Err e) error h = ap Err h

module _ {B R : Type 0} (error : ErrorKind → R) (r : Result B R) where
  -- the first refusal is the call's error
  abbrev pub IsFirst : Refusals → Type 0
  IsFirst rs = IfSome (first_refusal rs) (λ kind. r ≡ Err (error kind))

  is_first : (rs : Refusals) (k : ErrorKind) → first_refusal rs ≡ Some k → IsErrAnd r (λ e. e ≡ error k) → IsFirst rs
  is_first rs k e h = subst (λ (o : Option ErrorKind). IfSome o (λ kind. r ≡ Err (error kind))) (sym e) (error_is r (error k) h)

  -- of the checks so far the last one stops
  pub stopped_at : (rs rest : Refusals) (k : ErrorKind) → Stopped rs k → IsErrAnd r (λ e. e ≡ error k) → IsFirst (rs ++ rest)
  stopped_at rs rest k e h = is_first (rs ++ rest) k (stopped rs rest k (first_where_err rs tt k e)) h

  pub stopped_last : (rs : Refusals) (k : ErrorKind) → Stopped rs k → IsErrAnd r (λ e. e ≡ error k) → IsFirst rs
  stopped_last rs k e h = is_first rs k (first_where_err rs tt k e) h

  -- a check that is passed leaves the answer to the others
  pub passed_on : (rs rest : Refusals) (x : Unit {0}) → Passed rs x → IsFirst rest → IsFirst (rs ++ rest)
  passed_on rs rest x e h = subst (λ (o : Option ErrorKind). IfSome o (λ kind. r ≡ Err (error kind))) (sym (after_passed rs rest (none_where_ok rs tt x e))) h

  pub passed_last : (rs : Refusals) (x : Unit {0}) → Passed rs x → IsFirst rs
  passed_last rs x e = subst (λ (o : Option ErrorKind). IfSome o (λ kind. r ≡ Err (error kind))) (sym (none_where_ok rs tt x e)) tt

-- what a step below refuses
below_refuses : (A : Type 0) {B R : Type 0} (error : ErrorKind → R) (o : Option ErrorKind) (e : R) (r : Result B R) → r ≡ Err e → IfSome o (λ kind. ◌≡◌ {A = Result A R} (Err e) (Err (error kind))) → IfSome o (λ kind. r ≡ Err (error kind))
below_refuses A error None e r is h = tt
below_refuses A error (Some kind) e r is h = cc (is, h)

pub refused_below : (A : Type 0) {B R : Type 0} (error : ErrorKind → R) (r : Result B R) (rs : Refusals) (e : R) → IfSome (first_refusal rs) (λ kind. ◌≡◌ {A = Result A R} (Err e) (Err (error kind))) → IsErrAnd r (λ f. f ≡ e) → IsFirst error r rs
refused_below A error r rs e h is = below_refuses A error (first_refusal rs) e r (error_is r e is) h

below_answers : {A B R : Type 0} (error : ErrorKind → R) (o : Option ErrorKind) (x : A) (r : Result B R) → IfSome o (λ kind. ◌≡◌ {A = Result A R} (Ok x) (Err (error kind))) → IfSome o (λ kind. r ≡ Err (error kind))
below_answers error None x r h = tt
below_answers error (Some kind) x r h = absurd cc

pub answered_below : {A B R : Type 0} (error : ErrorKind → R) (r : Result B R) (rs : Refusals) (x : A) → IfSome (first_refusal rs) (λ kind. ◌≡◌ {A = Result A R} (Ok x) (Err (error kind))) → IsFirst error r rs
answered_below error r rs x h = below_answers error (first_refusal rs) x r h
