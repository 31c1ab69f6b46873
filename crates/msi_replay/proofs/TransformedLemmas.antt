-- What an applied transform ensures is what its call takes.
use Rattle.std.proofs.Common.{◌≡◌, Result, Ok, Err, refl, sym, ap, ◌∙◌, inl, inr}
use Rattle.msi.specs.Text.ErrorKind.{ErrorKind}
use Rattle.msi.specs.Database.Kept.{Kept}
use Rattle.msi.specs.Transform.Transforms.{TransformDef}
use Rattle.msi.specs.Transform.ErrorConditions.{ErrorConditions}
use Rattle.msi.specs.Transform.RecordRefusals.{IsRefused, Refusal}
use Rattle.msi.specs.State.{State}
use Rattle.msi.specs.Calls as calls
use Rattle.msi.specs.Steps.{transformed}
use Rattle.msi.specs.Transforming.{IsLeft, transforming}
use Rattle.msi.specs.Whole.{Becomes, Whole}
use Rattle.msi_replay.specs.Taken.{Takes}

module _ (old new : Whole) (t : TransformDef) (passing : ErrorConditions) where
  done_by : (r : Result Kept Refusal) → transforming old.state t passing ≡ r → Becomes old r new → IsLeft new.state.kept → Takes old (calls.apply_transform t passing) (Ok calls.done) new
  done_by (Ok k) is becomes left = record {
    step = λ len. inl (ap (transformed old.state) is ∙ ap (λ (s : State). (Ok calls.done, s)) (sym (ap (λ (w : Whole). w.state) becomes)), left);
    held = ap (λ (w : Whole). w.held) becomes;
    failed = ap (λ (w : Whole). w.failed) becomes;
  }
  done_by (Err refusal) is becomes left = absurd becomes

  pub transform_done : Becomes old (transforming old.state t passing) new → IsLeft new.state.kept → Takes old (calls.apply_transform t passing) (Ok calls.done) new
  transform_done becomes left = done_by (transforming old.state t passing) refl becomes left

  pub transform_refused : (refusal : Refusal) (kind : ErrorKind) → kind ≡ refusal.kind → new ≡ old → IsRefused (transforming old.state t passing) refusal
      → Takes old (calls.apply_transform t passing) (Err kind) new
  transform_refused refusal kind is same (inl memory) = record {
    step = λ len. inr (inl (refl, ap Err (is ∙ memory), ap (λ (w : Whole). w.state) same, tt));
    held = ap (λ (w : Whole). w.held) same;
    failed = ap (λ (w : Whole). w.failed) same;
  }
  transform_refused refusal kind is same (inr e) = record {
    step = λ len. inl (ap (transformed old.state) e ∙ (λ i. (Err (sym is i), sym (ap (λ (w : Whole). w.state) same) i)), tt);
    held = ap (λ (w : Whole). w.held) same;
    failed = ap (λ (w : Whole). w.failed) same;
  }
