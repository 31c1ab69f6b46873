-- A transform applied to a package: what is refused, and what is left.
use Rattle.std.proofs.Common.{◌≡◌, ℕ, ◌++◌, List, Option, None, Result, Ok, Err, refl, sym, ap, subst, ◌∙◌}
use Rattle.std.specs.Prelude.{IfErr, IfSome, IsErrAnd}
use Rattle.msi_base.specs.declared.errors.ErrorKind.{ErrorKind}
use Rattle.msi_base.specs.Refusals.{Refusals, first_refusal, unless_refused}
use Rattle.msi_base.proofs.RefusalLemmas.{refusals-Ok}
use Rattle.msi_database_storage.specs.Kept.{Kept}
use Rattle.msi_transform.specs.Transforms.{TransformDef}
use Rattle.msi_transform.specs.declared.conditions.ErrorConditions.{ErrorConditions}
use Rattle.msi_transform_rows.specs.RecordRefusals.{◌>>=◌, IsRefused, Refusal, nowhere}
use Rattle.msi_container_write.specs.LayoutLaw.{HaveNames}
use Rattle.msi_database.specs.Keeping.{IsKeptDatabase}
use Rattle.msi_database.specs.Changes.{sound_refusal}
use Rattle.msi_database.specs.Transforming.{apply_transform}
use Rattle.msi_database.proofs.calls.EarlyTransformLemmas.{IsFirst, Passed, Stopped, answered_below, passed_on, refused_below, stopped_at}
use Rattle.msi.specs.State.{parts_of, storage_refusal}
use Rattle.msi.specs.Transforming.{IsLeft, after_transform, page_of, stored_page, transforming}
use Rattle.msi.specs.Whole.{Becomes, Whole, with_open, with_state}

-- a refusal that is passed on
pub refused_on : {A B : Type 0} (r : Result B Refusal) (refusal : Refusal) (answer : Result A Refusal) → IsErrAnd r (λ e. e ≡ refusal) → IsRefused answer refusal → IfErr r (IsRefused answer)
refused_on (Ok x) refusal answer is h = tt
refused_on (Err e) refusal answer is h = subst (IsRefused answer) (sym is) h

becomes_by : (old new : Whole) (r : Result Kept Refusal) (k : Kept) → r ≡ Ok k → new ≡ with_state (after_transform old.state k) old → Becomes old r new
becomes_by old new r k is left = subst (λ r. Becomes old r new) (sym is) left

module _ (old : Whole) (t : TransformDef) (passing : ErrorConditions) (view : Whole) (is : view ≡ old) (passes : ◌≡◌ {A = Result (Unit {0}) ErrorKind} (Ok tt) (unless_refused (storage_refusal (parts_of old.state)) tt))
    (k : Kept) (same : k ≡ view.state.kept) (page_id : ℕ) (page : page_id ≡ page_of k view.state.is_pool_changed) where
  transforming_is : transforming old.state t passing ≡ apply_transform k page_id t passing
  transforming_is =
      let kept : old.state.kept ≡ k = sym (same ∙ ap (λ (w : Whole). w.state.kept) is) in
      let changed : old.state.is_pool_changed ≡ view.state.is_pool_changed = sym (ap (λ (w : Whole). w.state.is_pool_changed) is) in
      ap (λ r. nowhere r >>= λ k. apply_transform k (stored_page old.state) t passing)
      (refusals-Ok (storage_refusal (parts_of old.state)) tt tt old.state.kept old.state.kept passes refl)
      ∙ (λ i. apply_transform (kept i) (page_of (kept i) (changed i)) t passing)
      ∙ ap (λ (id : ℕ). apply_transform k id t passing) (sym page)

  pub transform_refused : (refusal : Refusal) → IsRefused (apply_transform k page_id t passing) refusal → IsRefused (transforming old.state t passing) refusal
  transform_refused refusal refused = subst (λ r. IsRefused r refusal) (sym transforming_is) refused

  abbrev with_kept : Kept → Whole → Whole
  with_kept new w = with_state (after_transform w.state new) w

  pub transform_left : (new : Kept) (name : Option (List ℕ)) (bytes : List ℕ) → name ≡ None → apply_transform k page_id t passing ≡ Ok new
      → Becomes old (transforming old.state t passing) (with_kept (with_open name bytes new) view)
  transform_left new name bytes none made = becomes_by old (with_kept (with_open name bytes new) view) (transforming old.state t passing) new (transforming_is ∙ made)
      (ap (λ (o : Option (List ℕ)). with_kept (with_open o bytes new) view) none ∙ ap (with_kept new) is)

-- what is left is kept, under names of a container
pub left_kept : (k : Kept) (name : Option (List ℕ)) (bytes : List ℕ) → name ≡ None → HaveNames k.streams → IsKeptDatabase k → IsLeft (with_open name bytes k)
left_kept k name bytes none names kept = subst (λ (o : Option (List ℕ)). IsLeft (with_open o bytes k)) (sym none) (record { names = names; database = kept })

-- WHAT REFUSES IT BEFORE MEMORY IS TAKEN

abbrev pub placeless : ErrorKind → Refusal
placeless kind = record { kind = kind; place = None }

module _ (old : Whole) (r : Result (Unit {0}) Refusal) where
  abbrev stored : Refusals
  stored = storage_refusal (parts_of old.state)

  pub has_storages : (k : ErrorKind) → Stopped stored k → IsErrAnd r (λ e. e ≡ placeless k) → IsFirst placeless r (stored ++ sound_refusal old.state.kept.database)
  has_storages k stops h = stopped_at placeless r stored (sound_refusal old.state.kept.database) k stops h

  module _ (view : Whole) (is : view ≡ old) (x : Unit {0}) (passes : Passed stored x) (k : Kept) (same : k ≡ view.state.kept) where
    on : IsFirst placeless r (sound_refusal k.database) → IsFirst placeless r (stored ++ sound_refusal old.state.kept.database)
    on h = passed_on placeless r stored (sound_refusal old.state.kept.database) x passes
        (subst (λ (k : Kept). IsFirst placeless r (sound_refusal k.database)) (same ∙ ap (λ (w : Whole). w.state.kept) is) h)

    pub unapplied_first : (e : Refusal) → IfSome (first_refusal (sound_refusal k.database)) (λ kind. ◌≡◌ {A = Result Kept Refusal} (Err e) (Err (placeless kind))) → IsErrAnd r (λ f. f ≡ e)
        → IsFirst placeless r (stored ++ sound_refusal old.state.kept.database)
    unapplied_first e h is_e = on (refused_below Kept placeless r (sound_refusal k.database) e h is_e)

    pub applied_first : (d : Kept) → IfSome (first_refusal (sound_refusal k.database)) (λ kind. ◌≡◌ {A = Result Kept Refusal} (Ok d) (Err (placeless kind)))
        → IsFirst placeless r (stored ++ sound_refusal old.state.kept.database)
    applied_first d h = on (answered_below placeless r (sound_refusal k.database) d h)
