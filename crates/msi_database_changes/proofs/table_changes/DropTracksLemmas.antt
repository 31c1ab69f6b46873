-- What a whole drop keeps.
use Rattle.std.proofs.Common.{◌≡◌, ℕ, true, false, List, [], ◌∷◌, ◌++◌, Option, Some, None, refl, ◌∙◌, subst, bytes_eq}
use Rattle.std.specs.List.{list_any}
use Rattle.std.proofs.lemmas.Bool.{or_parts, or_from}
use Rattle.msi_pool.specs.FirstFitLaws.{TakenPlacesHoldTheirText, GivenBackTakesOne}
use Rattle.msi_pool.specs.Pool.{Place}
use Rattle.msi_database_schema.specs.Keys.{is_table_name}
use Rattle.msi_database_schema.specs.System.{columns_name, is_schema_table, tables_name, validation_name}
use Rattle.msi_database_changes.specs.Database.{Database, table_at}
use Rattle.msi_table_cells.specs.TableCells.{TableCells}
use Rattle.msi_database_schema.proofs.FaultLemmas.{texts_flip}
use Rattle.msi_database_changes.specs.Changes.{Change, no_change}
use Rattle.msi_database_changes.specs.Drop.{rows_forgotten, table_released}
use Rattle.msi_database_changes.proofs.steps.StoredLemmas.{WellFormed}
use Rattle.msi_database_changes.proofs.describing.ShownChangesLemmas.{Dropped}
use Rattle.msi_database_changes.proofs.steps.UntouchedTableLemmas.{released_leaves}
use Rattle.msi_database_changes.proofs.table_changes.DropRowsLemmas.{is_sound_dropped}
use Rattle.msi_database_changes.proofs.steps.TracksLemmas.{Tracks, tracks_released, tracks_forgotten}

pub not_among : (other system : List ℕ) (names : List (List ℕ)) → list_any (bytes_eq other) names ≡ false → bytes_eq other system ≡ false → list_any (bytes_eq other) (names ++ system ∷ []) ≡ false
not_among other system [] h apart = or_from (bytes_eq other system) false apart refl
not_among other system (n ∷ ns) h apart =
    let g = or_parts (bytes_eq other n) (list_any (bytes_eq other) ns) h in
    or_from (bytes_eq other n) (list_any (bytes_eq other) (ns ++ system ∷ [])) g.0 (not_among other system ns g.1 apart)

-- a table that isn't stored yet isn't by forgetting another's rows, or where it is missing
still_unstored : (other name : List ℕ) (places : List Place) (system : List ℕ) (b : Change) (o : Option TableCells) → table_at system b.database ≡ o → list_any (bytes_eq other) b.stored ≡ false → bytes_eq other system ≡ false
    → list_any (bytes_eq other) (rows_forgotten name places system b).stored ≡ false
still_unstored other name places system b None is h apart = rw is h
still_unstored other name places system b (Some t) is h apart = rw is (not_among other system b.stored h apart)

missing_unstored : (other name : List ℕ) (places : List Place) (system : List ℕ) (b : Change) → table_at system b.database ≡ None → list_any (bytes_eq other) b.stored ≡ false
    → list_any (bytes_eq other) (rows_forgotten name places system b).stored ≡ false
missing_unstored other name places system b is h = rw is h

module _ (takes : TakenPlacesHoldTheirText) (gives : GivenBackTakesOne) (d : Database) (name : List ℕ) (c : Change) (well : WellFormed d) (p : Dropped d name c) where
  abbrev b₀ : Change
  b₀ = table_released name p.table (no_change d)

  abbrev forgotten : List ℕ → Change → Change
  forgotten system b = rows_forgotten name d.pool.places system b

  pub drop_tracks : is_table_name validation_name ≡ true → is_table_name columns_name ≡ true → is_table_name tables_name ≡ true → Tracks d c
  drop_tracks v_named c_named t_named =
      let t₀ = tracks_released takes gives d name p.table p.at p.named (is_sound_dropped d name c p) well in
      let b₁ = forgotten validation_name b₀ in
      let t₁ = tracks_forgotten takes gives d b₀ name d.pool.places validation_name (table_at validation_name b₀.database) refl v_named t₀ in
      let b₂ = forgotten columns_name b₁ in
      let t₂ = tracks_forgotten takes gives d b₁ name d.pool.places columns_name (table_at columns_name b₁.database) refl c_named t₁ in
      subst (Tracks d) p.last (tracks_forgotten takes gives d b₂ name d.pool.places tables_name (table_at tables_name b₂.database) refl t_named t₂)

  -- where there is no `_Validation`, none is stored
  pub drop_unstored : table_at validation_name d ≡ None → list_any (bytes_eq validation_name) c.stored ≡ false
  drop_unstored none =
      let r = or_parts (is_schema_table name) (bytes_eq name validation_name) p.no_system in
      let first : list_any (bytes_eq validation_name) b₀.stored ≡ false = or_from (bytes_eq validation_name name) false (texts_flip validation_name name ∙ r.1) refl in
      let missing = ((released_leaves takes gives (no_change d) name p.table p.at (is_sound_dropped d name c p) well).others validation_name (r.1)).at ∙ none in
      let b₁ = forgotten validation_name b₀ in
      let u₁ = missing_unstored validation_name name d.pool.places validation_name b₀ missing first in
      let b₂ = forgotten columns_name b₁ in
      let u₂ = still_unstored validation_name name d.pool.places columns_name b₁ (table_at columns_name b₁.database) refl u₁ refl in
      subst (λ (c : Change). list_any (bytes_eq validation_name) c.stored ≡ false) p.last
      (still_unstored validation_name name d.pool.places tables_name b₂ (table_at tables_name b₂.database) refl u₂ refl)
