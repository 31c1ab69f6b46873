-- Every accepted change leaves a database that is kept, and sound.
use Rattle.std.proofs.Common.{◌≡◌, Bool, true, false, not, ◌&&◌, ◌⊎◌, inl, inr, refl, sym, ap, ◌∙◌, subst}
use Rattle.std.specs.Prelude.{if◌then◌else◌}
use Rattle.msi_database_changes.specs.Database.{is_sound}
use Rattle.msi_database_changes.specs.Changes.{Change}
use Rattle.msi_database_changes.specs.Widening.{widened}
use Rattle.msi_database_changes.specs.Laws.{IsChange, IsTableChange}
use Rattle.msi_database_changes.proofs.steps.AtWidthLemmas.{IsChangeAtWidth, IsTableChangeAtWidth, change_at, sound_widened, table_change_at}
use Rattle.msi_database_storage.specs.Kept.{Kept, after_change, base_of, kept_widened, with_change}
use Rattle.msi_database.specs.Keeping.{IsKeptDatabase, ChangesAreKept}
use Rattle.msi_database.proofs.keeping.AcceptedChangeLemmas.{Comes, comes_kept, regular, describes, kinds}
use Rattle.msi_database.proofs.keeping.AcceptedRowChangeLemmas.{rows_come}
use Rattle.msi_database.proofs.keeping.AcceptedTableChangeLemmas.{tables_come}
use Rattle.msi_database.proofs.widths.WideningLemmas.{widened_kept}

module _ (k : Kept) (c : Change) (h : IsKeptDatabase k) (sound : is_sound k.database ≡ true) where
  pub change_comes : IsChangeAtWidth k.database c ⊎ IsTableChangeAtWidth k.database c → Comes k.database c
  change_comes (inl change) = rows_come k.database sound (regular k h sound) (describes k h sound) (kinds k h sound) c change
  change_comes (inr change) = tables_come k.database (regular k h sound) (describes k h sound) (kinds k h sound) c change

-- with references of the width that there is
pub change_kept : (k : Kept) (c : Change) → IsKeptDatabase k → is_sound k.database ≡ true → IsChangeAtWidth k.database c ⊎ IsTableChangeAtWidth k.database c
    → IsKeptDatabase (with_change k c) × (is_sound c.database ≡ true)
change_kept k c h sound change = let comes = change_comes k c h sound change in (comes_kept k c h sound comes, comes.sound)

-- over what a change is put
pub same_base : (k : Kept) (c : Change) → c.database.pool.long ≡ k.database.pool.long → base_of k c ≡ k
same_base k c e = ap (λ long. if long && not k.database.pool.long then kept_widened k else k) e ∙ neither k.database.pool.long where
  neither : (long : Bool) → (if long && not long then kept_widened k else k) ≡ k
  neither true = refl
  neither false = refl

pub wide_base : (k : Kept) (c : Change) → c.database.pool.long ≡ true → k.database.pool.long ≡ false → base_of k c ≡ kept_widened k
wide_base k c e f = λ i. if e i && not (f i) then kept_widened k else k

module _ (k : Kept) (c : Change) (h : IsKeptDatabase k) (sound : is_sound k.database ≡ true) where
  same_kept : IsChangeAtWidth k.database c ⊎ IsTableChangeAtWidth k.database c → IsKeptDatabase (after_change k c) × (is_sound c.database ≡ true)
  same_kept change =
      let left = change_kept k c h sound change in
      (subst (λ (base : Kept). IsKeptDatabase (with_change base c)) (sym (same_base k c (change_comes k c h sound change).tracks.long)) left.0, left.1)

  wide_kept : k.database.pool.long ≡ false → IsChangeAtWidth (widened k.database) c ⊎ IsTableChangeAtWidth (widened k.database) c → IsKeptDatabase (after_change k c) × (is_sound c.database ≡ true)
  wide_kept short change =
      let wide = widened_kept k h sound in
      let left = change_kept (kept_widened k) c wide (sound_widened k.database sound) change in
      (subst (λ (base : Kept). IsKeptDatabase (with_change base c)) (sym (wide_base k c (change_comes (kept_widened k) c wide (sound_widened k.database sound) change).tracks.long short)) left.0, left.1)

  kept_after : IsChange k.database c ⊎ IsTableChange k.database c → IsKeptDatabase (after_change k c) × (is_sound c.database ≡ true)
  kept_after (inl change) = change_at k.database c change (λ s short wide. wide_kept short (inl wide)) (λ same. same_kept (inl same))
  kept_after (inr change) = table_change_at k.database c change (λ s short wide. wide_kept short (inr wide)) (λ same. same_kept (inr same))

pub changes_are_kept : ChangesAreKept
changes_are_kept k c h sound change = kept_after k c h sound change
