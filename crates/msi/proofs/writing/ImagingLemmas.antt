-- Streams copied in their order, and the image that they give.
use Rattle.std.proofs.Common.{◌≡◌, ℕ, ◌+◌, ◌*◌, ◌^◌, Bool, true, false, ◌||◌, List, [], ◌∷◌, Option, Some, None, Result, Ok, Err, ◌++◌, refl, sym, ap, subst, ◌∙◌, ◌⊎◌, inl, inr}
use Rattle.std.specs.Prelude.{IfErr, IfOk, IsErrOf, IsTrue, ◌↔◌, if◌then◌else◌, nat_lt}
use Rattle.std.specs.FinMap.{entries}
use Rattle.msi_base.specs.declared.errors.ErrorKind.{ErrorKind}
use Rattle.msi_base.specs.declared.errors.ErrorKind.TheVariants.{InvalidInput, OutOfMemory}
use Rattle.msi_base.specs.Refusals.{AnswersFirst, IsRefusal, or_refused, unless_refused, ◌>>=◌}
use Rattle.msi_container_format.specs.Streams as maps
use Rattle.msi_container_format.specs.declared.contents.Contents.{Contents}
use Rattle.msi_container_write.specs.Layout.{layout, refuses, total}
use Rattle.msi_container_write.proofs.placing.LayoutLemmas.{not_true}
use Rattle.msi_database_storage.specs.Streams.{Streams}
use Rattle.msi.specs.Renewing.{with_renewed}
use Rattle.msi.specs.State.{State, parts_of}
use Rattle.msi.specs.Steps.{contents_of, image_of, storage_refusal, streams_written, text_refusals}
use Rattle.msi.specs.Whole.{Whole}
use Rattle.msi.proofs.packages.ChangeLemmas.{behind_storages}
use Rattle.msi.proofs.writing.FlushStepLemmas.{written_is, written_refused}

-- THE IMAGE

module _ (s : State) (streams : Streams) (n : ℕ) (written : streams_written s ≡ Some streams) (c : Contents) (same : c ≡ contents_of s streams) where
  by_refusal : (b : Bool) → refuses c n ≡ b → image_of s n ≡ ((if b then Err InvalidInput else Ok streams) >>= λ all. Ok (layout (contents_of s all) n))
  by_refusal b is =
      ap (λ (r : Result Streams ErrorKind). r >>= λ all. Ok (layout (contents_of s all) n))
      (written_is s streams n written ∙ ap (λ r. if r then Err InvalidInput else Ok streams) (ap (λ (k : Contents). refuses k n) (sym same) ∙ is))

  pub image_done : (bytes : List ℕ) → bytes ≡ layout c n → (refuses c n ≡ true → ⊥) → image_of s n ≡ Ok bytes
  image_done bytes is accepted =
      by_refusal false (not_true (refuses c n) accepted) ∙ ap (λ (b : List ℕ). Ok b) (ap (λ (k : Contents). layout k n) (sym same) ∙ sym is)

  pub image_failed : (kind : ErrorKind) → (kind ≡ InvalidInput) ⊎ (kind ≡ OutOfMemory) → (kind ≡ InvalidInput → refuses c n ≡ true) → IsRefusal (image_of s n) kind
  image_failed kind (inl input) refused = inr (by_refusal true (refused input) ∙ ap Err (sym input))
  image_failed kind (inr memory) refused = inl memory

pub image_unwritten : (s : State) (n : ℕ) (kind : ErrorKind) → IsRefusal (or_refused InvalidInput (streams_written s)) kind → IsRefusal (image_of s n) kind
image_unwritten s n kind (inl memory) = inl memory
image_unwritten s n kind (inr e) = inr (ap (λ (r : Result Streams ErrorKind). r >>= λ all. Ok (layout (contents_of s all) n)) (written_refused s n kind e))

-- with storages below the root there is none
stored_refuses : (s : State) (streams : Streams) (n : ℕ) → s.has_storages ≡ true → refuses (contents_of s streams) n ≡ true
stored_refuses s streams n e = ap (λ (b : Bool). b || nat_lt (2 ^ 31) (512 * (total (contents_of s streams) n + 1))) e

stored_input : (b : Bool) (kind : ErrorKind) → unless_refused {A = Unit {0}} ((b, InvalidInput) ∷ []) tt ≡ Err kind → (b ≡ true) × (kind ≡ InvalidInput)
stored_input true kind e = (refl, cc)
stored_input false kind e = absurd cc

pub image_stored : (s : State) (n : ℕ) (kind : ErrorKind) → unless_refused {A = Unit {0}} (storage_refusal (parts_of s)) tt ≡ Err kind → image_of s n ≡ Err kind
image_stored s n kind e =
    let stored = stored_input s.has_storages kind e in
    by_streams stored.0 (streams_written s) refl ∙ ap Err (sym stored.1)
  where
    by_streams : s.has_storages ≡ true → (o : Option Streams) → streams_written s ≡ o → image_of s n ≡ Err InvalidInput
    by_streams stored None is =
        ap (λ (r : Result Streams ErrorKind). r >>= λ all. Ok (layout (contents_of s all) n)) (written_refused s n InvalidInput (ap (or_refused InvalidInput) is))
    by_streams stored (Some streams) is = by_refusal s streams n is (contents_of s streams) refl true (stored_refuses s streams n stored)

-- no storages lie below the root, so the texts are looked at first
pub texts_first : {A : Type 0} (view old : Whole) → view ≡ old → ◌≡◌ {A = Result (Unit {0}) ErrorKind} (Ok tt) (unless_refused (storage_refusal (parts_of old.state)) tt)
    → (r : Result A ErrorKind) → AnswersFirst (text_refusals view.state) r → AnswersFirst (storage_refusal (parts_of old.state) ++ text_refusals old.state) r
texts_first view old is passes r h =
    behind_storages old.state.has_storages (text_refusals old.state) r passes (subst (λ (w : Whole). AnswersFirst (text_refusals w.state) r) is h)

-- the answer of a call that makes the image
module _ (s : State) (streams : Streams) (n : ℕ) (written : streams_written s ≡ Some streams) (c : Contents) (same : c ≡ contents_of s streams) where
  pub answer_done : {A : Type 0} (items : A → List ℕ) (r : Result A ErrorKind) → IfOk r (λ x. items x ≡ layout c n) → (IsErrOf r InvalidInput ↔ IsTrue (refuses c n))
      → IfOk r (λ x. image_of s n ≡ Ok (items x))
  answer_done items (Ok x) is refused = image_done s streams n written c same (items x) is (λ h. let e = refused.1 h in absurd cc)
  answer_done items (Err kind) is refused = tt

  pub answer_failed : {A : Type 0} (r : Result A ErrorKind) → (IsErrOf r InvalidInput ↔ IsTrue (refuses c n)) → IfErr r (λ kind. (kind ≡ InvalidInput) ⊎ (kind ≡ OutOfMemory))
      → IfErr r (IsRefusal (image_of s n))
  answer_failed (Ok x) refused kinds = tt
  answer_failed (Err kind) refused kinds = image_failed s streams n written c same kind kinds (λ e. refused.0 (ap Err e))

pub all_put : (m : maps.Streams) (copy : maps.Streams) (renewed items now was : Streams) → entries m ≡ with_renewed renewed (entries copy) → renewed ≡ items → entries copy ≡ now → now ≡ was
    → entries m ≡ with_renewed items was
all_put m copy renewed items now was put same copy_is now_is = put ∙ (λ i. with_renewed (same i) ((copy_is ∙ now_is) i))
