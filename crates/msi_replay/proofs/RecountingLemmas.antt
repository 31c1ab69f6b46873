-- What a recount ensures is what its call takes.
use Rattle.std.proofs.Common.{◌≡◌, ℕ, Result, Ok, Err, refl, sym, ap, subst, ◌∙◌, inl, inr}
use Rattle.std.specs.Prelude.{IfErr, IfOk, OnErr, OnOk}
use Rattle.msi.specs.Text.ErrorKind.{ErrorKind}
use Rattle.msi.specs.Query.Refusals.{AnswersWith, IsRefusal}
use Rattle.msi.specs.State.{State, parts_of}
use Rattle.msi.specs.Calls.{Answer}
use Rattle.msi.specs.Calls as calls
use Rattle.msi.specs.Steps.{after_recount, recounted, recounting, refused_early}
use Rattle.msi.specs.Whole.{Whole, with_state}
use Rattle.msi.proofs.writing.FlushStepLemmas.{answers_as}
use Rattle.msi_replay.specs.Taken.{Takes}
use Rattle.msi_replay.specs.Told.{told}

module _ (old new : Whole) where
  pub recount_done : (n : ℕ) → recounting (parts_of old.state) ≡ Ok n → new ≡ with_state (after_recount old.state) old → Takes old calls.recount (Ok (calls.count_is n)) new
  recount_done n is left = record {
    step = λ len. inl (ap (recounted old.state) is ∙ ap (λ (s : State). (Ok (calls.count_is n), s)) (sym (ap (λ (w : Whole). w.state) left)), tt);
    held = ap (λ (w : Whole). w.held) left;
    failed = ap (λ (w : Whole). w.failed) left;
  }

  pub recount_refused : (A : Type 0) (kind told_kind : ErrorKind) → told_kind ≡ kind → new ≡ old → IsRefusal (recounting (parts_of old.state)) kind
      → AnswersWith {A = A} (refused_early old.state calls.recount) (Err kind) → Takes old calls.recount (Err told_kind) new
  recount_refused A kind told_kind is same (inl memory) early = record {
    step = λ len. inr (inl (
      refl,
      ap Err (is ∙ memory),
      ap (λ (w : Whole). w.state) same,
      subst (λ (k : ErrorKind). AnswersWith {A = Answer} (refused_early old.state calls.recount) (Err k)) (sym is)
          (answers_as A Answer (refused_early old.state calls.recount) kind early),
    ));
    held = ap (λ (w : Whole). w.held) same;
    failed = ap (λ (w : Whole). w.failed) same;
  }
  recount_refused A kind told_kind is same (inr e) early = record {
    step = λ len. inl (ap (recounted old.state) e ∙ (λ i. (Err (sym is i), sym (ap (λ (w : Whole). w.state) same) i)), tt);
    held = ap (λ (w : Whole). w.held) same;
    failed = ap (λ (w : Whole). w.failed) same;
  }
