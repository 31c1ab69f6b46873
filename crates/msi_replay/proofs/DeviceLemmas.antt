-- A flush, and the image of a package, as steps of its session.
use Rattle.std.proofs.Common.{◌≡◌, ℕ, List, Result, Ok, Err, refl, sym, subst, ◌∙◌}
use Rattle.msi.specs.Text.ErrorKind.{ErrorKind}
use Rattle.msi.specs.Query.Refusals.{AnswersWith, IsRefusal}
use Rattle.msi.specs.Calls.{Answer}
use Rattle.msi.specs.Calls as calls
use Rattle.msi.specs.Steps.{Step, image_of, refused_early}
use Rattle.msi.specs.Runs.{SessionStep}
use Rattle.msi.specs.Whole.{Whole}
use Rattle.msi.specs.Flushing.{FlushStep, flush_answer}
use Rattle.msi.proofs.calls_in_turn.CallLemmas.{answered, unanswered}
use Rattle.msi.proofs.writing.FlushStepLemmas.{answers_as}
use Rattle.msi_replay.specs.Taken.{Takes, Tells, session_at}
use Rattle.msi_replay.specs.Told.{told}
use Rattle.msi_replay.proofs.ReplayedLemmas.{flush_step, flush_tells}

as_flush : (r : Result (Unit {0}) ErrorKind) → told (λ (u : Unit {0}). calls.done) r ≡ flush_answer r
as_flush (Ok u) = refl
as_flush (Err kind) = refl

module _ (old new : Whole) (r : Result (Unit {0}) ErrorKind) (tells : Tells old) (f : FlushStep old (flush_answer r) new) where
  pub flushed_step : (answer : Result Answer ErrorKind) → answer ≡ told (λ (u : Unit {0}). calls.done) r
      → SessionStep (session_at old) calls.flush answer (session_at new)
  flushed_step answer is = subst (λ (a : Result Answer ErrorKind). SessionStep (session_at old) calls.flush a (session_at new))
      (sym (is ∙ as_flush r)) (flush_step old new (flush_answer r) tells f)

  pub flushed_tells : Tells new
  flushed_tells = flush_tells old new (flush_answer r) tells f

module _ (w : Whole) (m : ℕ) where
  pub image_takes : (bytes : List ℕ) → image_of w.state m ≡ Ok bytes → (answered_bytes : List ℕ) → answered_bytes ≡ bytes
      → Takes w (calls.image m) (Ok (calls.bytes_are answered_bytes)) w
  image_takes bytes e said is = record {
    step = λ n. subst (λ (b : List ℕ). Step n w.state (calls.image m) (Ok (calls.bytes_are b)) w.state) (sym is)
        (answered n w.state (calls.image m) calls.bytes_are (image_of w.state m) refl refl refl bytes e);
    held = refl;
    failed = refl;
  }

  pub image_refused : (A : Type 0) (kind : ErrorKind) → IsRefusal (image_of w.state m) kind
      → AnswersWith {A = A} (refused_early w.state (calls.image m)) (Err kind) → (said : ErrorKind) → said ≡ kind
      → Takes w (calls.image m) (Err said) w
  image_refused A kind refused early said is = record {
    step = λ n. subst (λ (k : ErrorKind). Step n w.state (calls.image m) (Err k) w.state) (sym is)
        (unanswered n w.state (calls.image m) calls.bytes_are (image_of w.state m) refl refl refl kind refused
        (answers_as A Answer (refused_early w.state (calls.image m)) kind early));
    held = refl;
    failed = refl;
  }
