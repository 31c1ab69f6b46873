-- Answers of calls are steps: what a call answers and leaves, or why it is refused, is what a step says of it.
use Rattle.std.proofs.Common.{◌≡◌, ℕ, Bool, true, false, ◌||◌, Option, Some, None, Result, Ok, Err, refl, sym, ap, subst, ◌∙◌, inl, inr, length}
use Rattle.std.specs.Prelude.{IsTrue}
use Rattle.std.proofs.lemmas.Bool.{or_parts, true≢false}
use Rattle.msi_base.specs.declared.errors.ErrorKind.{ErrorKind}
use Rattle.msi_base.specs.declared.errors.ErrorKind.TheVariants.{OutOfMemory}
use Rattle.msi_base.specs.Refusals.{AnswersWith, Refusals, IsRefusal, first_refusal, unless, unless_refused}
use Rattle.msi_database.specs.Changes.{Change}
use Rattle.msi_database.proofs.RefusedLemmas.{unless_err}
use Rattle.msi.specs.State.{State}
use Rattle.msi.specs.Calls.{Call, Answer}
use Rattle.msi.specs.Calls as calls
use Rattle.msi.specs.Steps.{Step, outcome, after_change, changed, leaving, leaving_or, answer_of, is_lending, may_want_memory, refused_early, LeavesKept, Lends, LendsOrRefuses}
use Rattle.msi.specs.Runs.{Session, SessionStep, SameDevice, is_transform}
use Rattle.msi.proofs.packages.LeavingLemmas.{is_flush}
use Rattle.msi.proofs.writing.FlushStepLemmas.{when_false, when_true}

-- calls of which more is said than their outcome: those that lend, and an applied transform
abbrev pub says_more : Call → Bool
says_more call = is_lending call || is_transform call

nothing_more : (call : Call) (answer : Result Answer ErrorKind) (new : State) → says_more call ≡ false → LeavesKept call answer new
nothing_more (calls.apply_transform t passing) answer new e = absurd (true≢false e)
nothing_more _ answer new e = tt

module _ (n : ℕ) (s : State) (call : Call) where
  -- a call that takes no memory, or was given it
  pub step_is : (answer : Result Answer ErrorKind) (new : State) → says_more call ≡ false → outcome n s call ≡ (answer, new) → Step n s call answer new
  step_is answer new plain is = inl (when_false (is_lending call) _ ((outcome n s call ≡ (answer, new)) × LeavesKept call answer new) (or_parts (is_lending call) (is_transform call) plain).0
      (is, nothing_more call answer new plain))

  -- one that was refused it, where no early refusal holds
  pub step_unfed : IsTrue (may_want_memory s call) → (new : State) → (kind : ErrorKind) → kind ≡ OutOfMemory → new ≡ s
      → AnswersWith {A = Answer} (refused_early s call) (Err kind) → Step n s call (Err kind) new
  step_unfed wants new kind memory same early = inr (inl (wants, ap Err memory, same, early))

  -- WHAT CHANGES TABLES

  module _ (r : Result Change ErrorKind) (plain : says_more call ≡ false) (wants : IsTrue (may_want_memory s call)) (is : outcome n s call ≡ changed s r) (new : State) where
    pub change_done : (c : Change) → r ≡ Ok c → new ≡ after_change s c → Step n s call (Ok calls.done) new
    change_done c e after = step_is (Ok calls.done) new plain (is ∙ ap (changed s) e ∙ ap (λ (t : State). (Ok calls.done, t)) (sym after))

    pub change_refused : (kind : ErrorKind) → IsRefusal r kind → new ≡ s → AnswersWith {A = Answer} (refused_early s call) (Err kind) → Step n s call (Err kind) new
    change_refused kind (inl memory) same early = step_unfed wants new kind memory same early
    change_refused kind (inr e) same early = step_is (Err kind) new plain (is ∙ ap (changed s) e ∙ ap (λ (t : State). (Err kind, t)) (sym same))

  -- WHAT IS REFUSED, OR LEAVES A STATE

  no_refusal : {X : Type 0} (x y : X) (o : Option ErrorKind) → unless o x ≡ Ok y → o ≡ None
  no_refusal x y None e = refl
  no_refusal x y (Some kind) e = absurd cc

  module _ {X : Type 0} (x : X) (refusals : Refusals) (next : State) (plain : says_more call ≡ false) (is : outcome n s call ≡ leaving s refusals next) (new : State) where
    pub left_done : (y : X) → unless_refused refusals x ≡ Ok y → new ≡ next → Step n s call (Ok calls.done) new
    left_done y e after = step_is (Ok calls.done) new plain
        (is ∙ ap (λ (o : Option ErrorKind). leaving_or o s next) (no_refusal x y (first_refusal refusals) e) ∙ ap (λ (t : State). (Ok calls.done, t)) (sym after))

    pub left_refused : (kind : ErrorKind) → unless_refused refusals x ≡ Err kind → new ≡ s → Step n s call (Err kind) new
    left_refused kind e same = step_is (Err kind) new plain
        (is ∙ ap (λ (o : Option ErrorKind). leaving_or o s next) (unless_err (first_refusal refusals) x kind e) ∙ ap (λ (t : State). (Err kind, t)) (sym same))

  -- WHAT ONLY ANSWERS

  module _ {A : Type 0} (f : A → Answer) (r : Result A ErrorKind) (plain : says_more call ≡ false) (wants : IsTrue (may_want_memory s call)) (is : outcome n s call ≡ (answer_of f r, s)) where
    pub answered : (x : A) → r ≡ Ok x → Step n s call (Ok (f x)) s
    answered x e = step_is (Ok (f x)) s plain (is ∙ ap (λ (r : Result A ErrorKind). (answer_of f r, s)) e)

    pub unanswered : (kind : ErrorKind) → IsRefusal r kind → AnswersWith {A = Answer} (refused_early s call) (Err kind) → Step n s call (Err kind) s
    unanswered kind (inl memory) early = step_unfed wants s kind memory refl early
    unanswered kind (inr e) early = step_is (Err kind) s plain (is ∙ ap (λ (r : Result A ErrorKind). (answer_of f r, s)) e)

  -- WHAT LENDS

  pub lent : (next new : State) (a : Answer) → is_lending call ≡ true → outcome n s call ≡ (Ok calls.done, next) → Lends next call a new → Step n s call (Ok a) new
  lent next new a lends is l = inl (when_true (is_lending call) (LendsOrRefuses s call (outcome n s call) (Ok a) new) _ lends
      (subst (λ (r : Result Answer ErrorKind × State). LendsOrRefuses s call r (Ok a) new) (sym is) l))

-- OVER A DEVICE

abbrev pub asks_device : Call → Bool
asks_device calls.device_failed = true
asks_device _ = false

-- a call that is no flush leaves the device alone
pub session_is : (x y : Session) (call : Call) (answer : Result Answer ErrorKind) → is_flush call ≡ false → asks_device call ≡ false
    → Step (length x.held) x.state call answer y.state → SameDevice x y → SessionStep x call answer y
session_is x y calls.flush answer e f step same = absurd (true≢false e)
session_is x y calls.device_failed answer e f step same = absurd (true≢false f)
session_is x y call answer e f step same = (step, same)
