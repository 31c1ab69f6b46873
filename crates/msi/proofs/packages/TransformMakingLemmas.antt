-- A transform made of two packages: of their databases, with the open stream in its place.
use Rattle.std.proofs.Common.{◌≡◌, ℕ, ◌++◌, None, Result, Ok, sym, ap, subst, ◌∙◌}
use Rattle.std.specs.Prelude.{IfErr, IsErrAnd}
use Rattle.msi_base.specs.declared.errors.ErrorKind.{ErrorKind}
use Rattle.msi_base.specs.Refusals.{Refusals, unless_refused, ◌>>=◌}
use Rattle.msi_database_storage.specs.Kept.{Kept}
use Rattle.msi_transform.specs.Transforms.{TransformDef}
use Rattle.msi_transform_making.specs.Making.{Pair, Side, pair_of, table_reasons, told_names}
use Rattle.msi_transform_pair.specs.MakingRefusals.{IsAtFault, MakingRefusal}
use Rattle.msi_database.specs.Changes.{sound_refusal}
use Rattle.msi_database.specs.TransformMaking.{side, transform_between}
use Rattle.msi_database.proofs.calls.EarlyTransformLemmas.{IsFirst, Passed, Stopped, passed_on, stopped_at}
use Rattle.msi.specs.State.{State}
use Rattle.msi.specs.Transforming.{page_of}
use Rattle.msi.specs.TransformMaking.{kind_refusal, pair_of_states, side_of, transform_made}
use Rattle.msi.specs.Whole.{Whole}

-- a package's side
side_is : (s : State) (k : Kept) → k ≡ s.kept → (page_id : ℕ) → page_id ≡ page_of k s.is_pool_changed → side_of s ≡ side page_id k
side_is s k same page_id page =
    ap (λ (k : Kept). side (page_of k s.is_pool_changed) k) (sym same) ∙ ap (λ (id : ℕ). side id k) (sym page)

module _ (old new : Whole) (view : Whole) (is : view ≡ old) (new_view : Whole) (new_is : new_view ≡ new)
    (k l : Kept) (same : k ≡ view.state.kept) (new_same : l ≡ new_view.state.kept)
    (page_id new_page_id : ℕ) (page : page_id ≡ page_of k view.state.is_pool_changed) (new_page : new_page_id ≡ page_of l new_view.state.is_pool_changed) where
  old_side : side_of old.state ≡ side page_id k
  old_side = ap (λ (w : Whole). side_of w.state) (sym is) ∙ side_is view.state k same page_id page

  new_side : side_of new.state ≡ side new_page_id l
  new_side = ap (λ (w : Whole). side_of w.state) (sym new_is) ∙ side_is new_view.state l new_same new_page_id new_page

  pub pair_is : pair_of_states old.state new.state ≡ pair_of (side page_id k) (side new_page_id l)
  pair_is = ap (λ (s : Side). pair_of s (side_of new.state)) old_side ∙ ap (λ (s : Side). pair_of (side page_id k) s) new_side

  pub made_is : ◌≡◌ {A = Result (Unit {0}) ErrorKind} (Ok tt) (unless_refused (kind_refusal view.state.kind) tt)
      → ◌≡◌ {A = Result (Unit {0}) ErrorKind} (Ok tt) (unless_refused (kind_refusal new_view.state.kind) tt)
      → transform_made old.state new.state ≡ transform_between (side page_id k) (side new_page_id l)
  made_is passes new_passes =
      ap (λ (w : Whole). unless_refused (kind_refusal w.state.kind) (tt {0}) >>= λ u. unless_refused (kind_refusal new.state.kind) (tt {0}) >>= λ u. transform_between (side_of old.state) (side_of new.state)) (sym is)
      ∙ ap (λ (r : Result (Unit {0}) ErrorKind). r >>= λ u. unless_refused (kind_refusal new.state.kind) (tt {0}) >>= λ u. transform_between (side_of old.state) (side_of new.state)) (sym passes)
      ∙ ap (λ (w : Whole). unless_refused (kind_refusal w.state.kind) (tt {0}) >>= λ u. transform_between (side_of old.state) (side_of new.state)) (sym new_is)
      ∙ ap (λ (r : Result (Unit {0}) ErrorKind). r >>= λ u. transform_between (side_of old.state) (side_of new.state)) (sym new_passes)
      ∙ ap (λ (s : Side). transform_between s (side_of new.state)) old_side ∙ ap (λ (s : Side). transform_between (side page_id k) s) new_side

  pub at_fault_is : (r : Result TransformDef MakingRefusal) → IfErr r (IsAtFault (table_reasons (pair_of (side page_id k) (side new_page_id l))) (told_names l))
      → IfErr r (IsAtFault (table_reasons (pair_of_states old.state new.state)) (told_names new.state.kept))
  at_fault_is r h = subst (λ (p : Pair). IfErr r (IsAtFault (table_reasons p) (told_names p.new))) (sym pair_is) h

-- WHAT REFUSES IT BEFORE MEMORY IS TAKEN

abbrev pub tableless : ErrorKind → MakingRefusal
tableless kind = record { kind = kind; table = None }

module _ (old new : Whole) (view : Whole) (is : view ≡ old) (r : Result TransformDef MakingRefusal) where
  abbrev unsound : Refusals
  unsound = sound_refusal old.state.kept.database ++ sound_refusal new.state.kept.database

  abbrev refusals : Refusals
  refusals = kind_refusal old.state.kind ++ kind_refusal new.state.kind ++ unsound

  old_passes : (x : Unit {0}) → Passed (kind_refusal view.state.kind) x → Passed (kind_refusal old.state.kind) x
  old_passes x passes = subst (λ (w : Whole). Passed (kind_refusal w.state.kind) x) is passes

  pub old_is_other : (k : ErrorKind) → Stopped (kind_refusal view.state.kind) k → IsErrAnd r (λ e. e ≡ tableless k) → IsFirst tableless r refusals
  old_is_other k stops h = stopped_at tableless r (kind_refusal old.state.kind) (kind_refusal new.state.kind ++ unsound) k (subst (λ (w : Whole). Stopped (kind_refusal w.state.kind) k) is stops) h

  module _ (new_view : Whole) (new_is : new_view ≡ new) where
    pub new_is_other : (x : Unit {0}) → Passed (kind_refusal view.state.kind) x → (k : ErrorKind) → Stopped (kind_refusal new_view.state.kind) k → IsErrAnd r (λ e. e ≡ tableless k) → IsFirst tableless r refusals
    new_is_other x passes k stops h = passed_on tableless r (kind_refusal old.state.kind) (kind_refusal new.state.kind ++ unsound) x (old_passes x passes)
        (stopped_at tableless r (kind_refusal new.state.kind) unsound k (subst (λ (w : Whole). Stopped (kind_refusal w.state.kind) k) new_is stops) h)

    pub both_are_installers : (x y : Unit {0}) → Passed (kind_refusal view.state.kind) x → Passed (kind_refusal new_view.state.kind) y
        → (k l : Kept) → k ≡ view.state.kept → l ≡ new_view.state.kept → IsFirst tableless r (sound_refusal k.database ++ sound_refusal l.database) → IsFirst tableless r refusals
    both_are_installers x y passes new_passes k l same new_same h =
        passed_on tableless r (kind_refusal old.state.kind) (kind_refusal new.state.kind ++ unsound) x (old_passes x passes)
        (passed_on tableless r (kind_refusal new.state.kind) unsound y (subst (λ (w : Whole). Passed (kind_refusal w.state.kind) y) new_is new_passes)
        (subst (λ (k : Kept). IsFirst tableless r (sound_refusal k.database ++ sound_refusal new.state.kept.database)) (same ∙ ap (λ (w : Whole). w.state.kept) is)
        (subst (λ (l : Kept). IsFirst tableless r (sound_refusal k.database ++ sound_refusal l.database)) (new_same ∙ ap (λ (w : Whole). w.state.kept) new_is) h)))
