-- What a change of a package's tables leaves is sound.
use Rattle.std.proofs.Common.{◌≡◌, ℕ, true, false, not, ◌||◌, List, [], ◌∷◌, ◌++◌, Option, None, IfSome, Bool, ◌⊎◌, inl, inr, refl, sym, ap, subst, ◌∙◌}
use Rattle.std.specs.Prelude.{Result, Ok, Err}
use Rattle.msi_base.specs.declared.errors.ErrorKind.{ErrorKind}
use Rattle.msi_base.specs.declared.errors.ErrorKind.TheVariants.{InvalidData, InvalidInput}
use Rattle.msi_table_values.specs.Columns.{ColumnDef}
use Rattle.msi_query.specs.Queries.{InsertQuery, UpdateQuery, DeleteQuery}
use Rattle.msi_base.specs.Refusals.{AnswersFirst, Refusals, IsRefusal, unless_refused, ◌>>=◌}
use Rattle.msi_database.specs.Changes.{Change, sound_refusal}
use Rattle.msi_database.specs.Create.{create_table}
use Rattle.msi_database.specs.Database.{Database, is_sound}
use Rattle.msi_database.specs.Delete.{delete_rows}
use Rattle.msi_database.specs.Drop.{drop_table}
use Rattle.msi_database.specs.AddColumn.{add_column}
use Rattle.msi_database.specs.Insert.{insert_rows}
use Rattle.msi_database.specs.Laws.{IsChange, IsTableChange, inserted, updated, deleted, created, dropped, column_added}
use Rattle.msi_database.specs.Update.{update_rows}
use Rattle.msi_database_storage.specs.Kept.{Kept}
use Rattle.msi_database.specs.Keeping.{IsKeptDatabase}
use Rattle.msi_database.specs.Making as databases
use Rattle.msi_database.specs.Making.{TellsUse}
use Rattle.msi_database.proofs.keeping.KeepingLemmas.{changes_are_kept}
use Rattle.msi.specs.State.{parts_of}
use Rattle.msi.specs.Steps.{changing, storage_refusal}
use Rattle.msi.specs.Whole.{IsHeld, IsOpen, Leaves, Whole, with_open, with_state}
use Rattle.msi.proofs.packages.PackageLemmas.{change_sound}

-- a database of which no stream lies open is held where it is sound
pub held_sound : (k : Kept) (name : Option (List ℕ)) (used : Bool) → name ≡ None → is_sound k.database ≡ true → IsHeld k name used
held_sound k name used none sound = record {
  current = subst (λ (o : Option (List ℕ)). IfSome o (IsOpen k)) (sym none) tt;
  changed = λ _. sound;
}

-- a pool is in use of sound tables alone, also once a change was noted
pub noted_sound : {S : Type 0} (before used : Bool) → (before ≡ true → S) → (used ≡ true → S) → (before || used) ≡ true → S
noted_sound true used was is either = was refl
noted_sound false used was is either = is either

passes : (b : Bool) → ◌≡◌ {A = Result (Unit {0}) ErrorKind} (Ok tt) (unless_refused ((not b, InvalidData) ∷ []) tt) → b ≡ true
passes true e = refl
passes false e = absurd cc

-- and one that is to be changed is sound
pub after_check : (k new : Kept) (name : Option (List ℕ)) (used : Bool) → name ≡ None
    → ◌≡◌ {A = Result (Unit {0}) ErrorKind} (Ok tt) (unless_refused (sound_refusal k.database) tt)
    → is_sound new.database ≡ is_sound k.database → IsHeld new name used
after_check k new name used none answer same = held_sound new name used none (same ∙ passes (is_sound k.database) answer)

module _ (k new : Kept) (name : Option (List ℕ)) (used : Bool) (none : name ≡ None) (kept : IsKeptDatabase k) where
  left_by : (r : Result Change ErrorKind) → ((c : Change) → r ≡ Ok c → IsChange k.database c ⊎ IsTableChange k.database c)
      → databases.Leaves k r new → is_sound new.database ≡ true
  left_by (Ok c) change left = let is = change c refl in
      ap (λ (k : Kept). is_sound k.database) left ∙ (changes_are_kept k c kept (change_sound k.database c is) is).1
  left_by (Err kind) change left = absurd left

  abbrev held_by : (r : Result Change ErrorKind) → ((c : Change) → r ≡ Ok c → IsChange k.database c ⊎ IsTableChange k.database c)
      → databases.Leaves k r new → IsHeld new name used
  held_by r change left = held_sound new name used none (left_by r change left)

  pub after_insert : (q : InsertQuery) → databases.Leaves k (insert_rows k.database q) new → IsHeld new name used
  after_insert q left = held_by (insert_rows k.database q) (λ c e. inl (inserted q e)) left

  pub after_update : (q : UpdateQuery) → databases.Leaves k (update_rows k.database q) new → IsHeld new name used
  after_update q left = held_by (update_rows k.database q) (λ c e. inl (updated q e)) left

  pub after_delete : (q : DeleteQuery) → databases.Leaves k (delete_rows k.database q) new → IsHeld new name used
  after_delete q left = held_by (delete_rows k.database q) (λ c e. inl (deleted q e)) left

  pub after_create : (table : List ℕ) (columns : List ColumnDef) → databases.Leaves k (create_table k.database table columns) new → IsHeld new name used
  after_create table columns left = held_by (create_table k.database table columns) (λ c e. inr (created table columns e)) left

  pub after_drop : (table : List ℕ) → databases.Leaves k (drop_table k.database table) new → IsHeld new name used
  after_drop table left = held_by (drop_table k.database table) (λ c e. inr (dropped table e)) left

  pub after_column : (table : List ℕ) (column : ColumnDef) → databases.Leaves k (add_column k.database table column) new → IsHeld new name used
  after_column table column left = held_by (add_column k.database table column) (λ c e. inr (column_added table column e)) left

-- WHAT A CHANGE ANSWERS AND LEAVES OF THE WHOLE

changing_by : (b : Bool) (d : Database) (f : Database → Result Change ErrorKind) → ◌≡◌ {A = Result (Unit {0}) ErrorKind} (Ok tt) (unless_refused ((b, InvalidInput) ∷ []) tt)
    → (unless_refused ((b, InvalidInput) ∷ []) d >>= f) ≡ f d
changing_by true d f passes = absurd cc
changing_by false d f passes = refl

module _ (view old : Whole) (is : view ≡ old) (f : Database → Result Change ErrorKind)
    (passes : ◌≡◌ {A = Result (Unit {0}) ErrorKind} (Ok tt) (unless_refused (storage_refusal (parts_of old.state)) tt)) where
  changing_is : changing (parts_of old.state) f ≡ f old.state.kept.database
  changing_is = changing_by old.state.has_storages old.state.kept.database f passes

  -- the state that a change leaves, where it was noted
  abbrev noted : Kept → Bool → Whole
  noted new used = with_state (record view.state { kept = new; is_unwritten = true; is_pool_changed = view.state.is_pool_changed || used }) view

  left_noted : (new : Kept) (used : Bool) (r : Result Change ErrorKind) → databases.Leaves view.state.kept r new → TellsUse r used → Leaves view r (noted new used)
  left_noted new used (Ok c) left tells = λ i. noted (left i) (tells i)
  left_noted new used (Err kind) left tells = absurd left

  pub change_left : (k new : Kept) (name : Option (List ℕ)) (bytes : List ℕ) (used : Bool) → k ≡ view.state.kept → name ≡ None
      → databases.Leaves k (f k.database) new → TellsUse (f k.database) used
      → Leaves old (changing (parts_of old.state) f) (noted (with_open name bytes new) used)
  change_left k new name bytes used same none left tells =
      let r : Result Change ErrorKind = f view.state.kept.database in
      let leaves : databases.Leaves view.state.kept r new = subst (λ (k : Kept). databases.Leaves k (f k.database) new) same left in
      let uses : TellsUse r used = subst (λ (k : Kept). TellsUse (f k.database) used) same tells in
      let by_view : Leaves view r (noted new used) = left_noted new used r leaves uses in
      let by_old : Leaves old (f old.state.kept.database) (noted new used) =
      subst (λ (w : Whole). Leaves w (f w.state.kept.database) (noted new used)) is by_view in
      subst (λ (o : Option (List ℕ)). Leaves old (changing (parts_of old.state) f) (noted (with_open o bytes new) used)) (sym none)
      (subst (λ (r : Result Change ErrorKind). Leaves old r (noted new used)) (sym changing_is) by_old)

  pub change_refused : (k : Kept) (kind : ErrorKind) → k ≡ view.state.kept → IsRefusal (f k.database) kind → IsRefusal (changing (parts_of old.state) f) kind
  change_refused k kind same refused =
      let by_old : IsRefusal (f old.state.kept.database) kind =
      subst (λ (k : Kept). IsRefusal (f k.database) kind) (same ∙ ap (λ (w : Whole). w.state.kept) is) refused in
      subst (λ (r : Result Change ErrorKind). IsRefusal r kind) (sym changing_is) by_old

-- WHAT IS REFUSED BEFORE MEMORY IS TAKEN

pub behind_storages : {A : Type 0} (b : Bool) (rs : Refusals) (r : Result A ErrorKind) → ◌≡◌ {A = Result (Unit {0}) ErrorKind} (Ok tt) (unless_refused ((b, InvalidInput) ∷ []) tt)
    → AnswersFirst rs r → AnswersFirst ((b, InvalidInput) ∷ [] ++ rs) r
behind_storages true rs r passes h = absurd cc
behind_storages false rs r passes h = h

-- no storages lie below the root, so what the database refuses the package refuses
pub answered_behind : {A : Type 0} (view old : Whole) → view ≡ old → (f : Database → Refusals) → ◌≡◌ {A = Result (Unit {0}) ErrorKind} (Ok tt) (unless_refused (storage_refusal (parts_of old.state)) tt)
    → (k : Kept) → k ≡ view.state.kept → (r : Result A ErrorKind) → AnswersFirst (f k.database) r → AnswersFirst (storage_refusal (parts_of old.state) ++ f old.state.kept.database) r
answered_behind view old is f passes k same r h =
    behind_storages old.state.has_storages (f old.state.kept.database) r passes
    (subst (λ (k : Kept). AnswersFirst (f k.database) r) (same ∙ ap (λ (w : Whole). w.state.kept) is) h)

refused_at : {A : Type 0} (b : Bool) (rs : Refusals) (kind : ErrorKind) (r : Result A ErrorKind) → r ≡ Err kind → ◌≡◌ {A = Result (Unit {0}) ErrorKind} (Err kind) (unless_refused ((b, InvalidInput) ∷ []) tt)
    → AnswersFirst ((b, InvalidInput) ∷ [] ++ rs) r
refused_at true rs kind r is e = cc (is, e)
refused_at false rs kind r is e = absurd cc

-- storages lie below the root
pub answered_storages : {A : Type 0} (old : Whole) (rs : Refusals) (kind : ErrorKind) (r : Result A ErrorKind) → r ≡ Err kind
    → ◌≡◌ {A = Result (Unit {0}) ErrorKind} (Err kind) (unless_refused (storage_refusal (parts_of old.state)) tt) → AnswersFirst (storage_refusal (parts_of old.state) ++ rs) r
answered_storages old rs kind r is e = refused_at old.state.has_storages rs kind r is e
