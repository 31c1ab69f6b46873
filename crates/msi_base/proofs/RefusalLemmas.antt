-- Refusals in order, and what they leave.
use Rattle.std.proofs.Common.{◌≡◌, ◌∷◌, Bool, true, false, Option, Some, None, Result, Ok, Err, refl, ap, subst, sym, ◌∙◌}
use Rattle.std.specs.Prelude.{IsErrAnd, IfErr, IfSome}
use Rattle.std.proofs.Common.{inl, inr}
use Rattle.msi_base.specs.declared.errors.ErrorKind.{ErrorKind}
use Rattle.msi_base.specs.Refusals.{AnswersFirst, Refusals, IsRefusal, first_refusal, unless, unless_refused, ◌>>=◌}

unless-Ok : {A B : Type 0} (o : Option ErrorKind) (x y : A) (z : B) → unless o x ≡ Ok y → unless o z ≡ Ok z
unless-Ok None x y z e = refl
unless-Ok (Some k) x y z e = cc

pub unless-Err : {A B : Type 0} (o : Option ErrorKind) (x : A) (z : B) (k : ErrorKind) → unless o x ≡ Err k → unless o z ≡ Err k
unless-Err None x z k e = cc
unless-Err (Some l) x z k e = cc

-- where no refusal holds, the answer is given
pub refusals-Ok : {A B : Type 0} (rs : Refusals) (x y : A) (z w : B) → Ok y ≡ unless_refused rs x → w ≡ z → unless_refused rs z ≡ Ok w
refusals-Ok rs x y z w e h = unless-Ok (first_refusal rs) x y z (sym e) ∙ ap Ok (sym h)

-- where one holds, it is given whatever the answer is
pub refusals-Err : {A B : Type 0} (rs : Refusals) (x : A) (z : B) (k : ErrorKind) → Err k ≡ unless_refused rs x → unless_refused rs z ≡ Err k
refusals-Err rs x z k e = unless-Err (first_refusal rs) x z k (sym e)

-- a refusal in front of others
pub first_holds : {A : Type 0} (b : Bool) (kind : ErrorKind) (rs : Refusals) (z : A) → b ≡ true → unless_refused ((b, kind) ∷ rs) z ≡ Err kind
first_holds b kind rs z e = rw e refl

pub first_passes : {A : Type 0} (b : Bool) (kind : ErrorKind) (rs : Refusals) (z : A) → b ≡ false → unless_refused ((b, kind) ∷ rs) z ≡ unless_refused rs z
first_passes b kind rs z e = rw e refl

-- a call that was refused refuses what goes on from it
pub goes_on-Err : {A B : Type 0} (r : Result A ErrorKind) (f : A → Result B ErrorKind) (k : ErrorKind) → IsRefusal r k → IsRefusal (r >>= f) k
goes_on-Err r f k (inl m) = inl m
goes_on-Err r f k (inr e) = inr (rw e refl)

-- an error that is passed on
pub err_passed : {A B : Type 0} (r : Result A ErrorKind) (k : ErrorKind) (answer : Result B ErrorKind) → IsErrAnd r (λ e. e ≡ k) → IsRefusal answer k → IfErr r (IsRefusal answer)
err_passed (Ok x) k answer e h = tt
err_passed (Err l) k answer e h = subst (IsRefusal answer) (sym e) h

-- WHERE THE FIRST REFUSAL IS THE ANSWER

answers_where : {A : Type 0} (o : Option ErrorKind) (r : Result A ErrorKind) (k : ErrorKind) → IsErrAnd r (λ e. e ≡ k) → o ≡ Some k → IfSome o (λ kind. r ≡ Err kind)
answers_where None r k e h = tt
answers_where (Some l) (Ok x) k e h = absurd e
answers_where (Some l) (Err m) k e h = cc (e, h)

-- an error that is the first refusal
pub first_answered : {A : Type 0} (rs : Refusals) (r : Result A ErrorKind) (k : ErrorKind) → IsErrAnd r (λ e. e ≡ k) → first_refusal rs ≡ Some k → AnswersFirst rs r
first_answered rs r k e h = answers_where (first_refusal rs) r k e h

-- none holds
pub none_answered : {A : Type 0} (rs : Refusals) (r : Result A ErrorKind) → first_refusal rs ≡ None → AnswersFirst rs r
none_answered rs r h = rw h tt

passed_where : (A : Type 0) {B : Type 0} (o : Option ErrorKind) (k : ErrorKind) (r : Result B ErrorKind) → IsErrAnd r (λ e. e ≡ k) → IfSome o (λ kind. ◌≡◌ {A = Result A ErrorKind} (Err k) (Err kind)) → IfSome o (λ kind. r ≡ Err kind)
passed_where A None k r e h = tt
passed_where A (Some l) k (Ok x) e h = absurd e
passed_where A (Some l) k (Err m) e h = cc (e, h)

-- an error that is passed on
pub first_passed : (A : Type 0) {B : Type 0} (rs : Refusals) (k : ErrorKind) (r : Result B ErrorKind) → IsErrAnd r (λ e. e ≡ k) → AnswersFirst {A = A} rs (Err k) → AnswersFirst rs r
first_passed A rs k r e h = passed_where A (first_refusal rs) k r e h

accepted_where : {A B : Type 0} (o : Option ErrorKind) (x : A) (r : Result B ErrorKind) → IfSome o (λ kind. ◌≡◌ {A = Result A ErrorKind} (Ok x) (Err kind)) → IfSome o (λ kind. r ≡ Err kind)
accepted_where None x r h = tt
accepted_where (Some l) x r h = cc (h)

-- an answer that was given, so that none holds
pub accepted_first : {A B : Type 0} (rs : Refusals) (x : A) (r : Result B ErrorKind) → AnswersFirst rs (Ok x) → AnswersFirst rs r
accepted_first rs x r h = accepted_where (first_refusal rs) x r h

-- an error that stays the first refusal
pub err_is : {A : Type 0} (r : Result A ErrorKind) (k : ErrorKind) (rs : Refusals) → IsErrAnd r (λ e. e ≡ k) → first_refusal rs ≡ Some k → IfErr r (λ kind. first_refusal rs ≡ Some kind)
err_is (Ok x) k rs e h = tt
err_is (Err l) k rs e h = h ∙ ap Some (sym e)
