-- After a table was created or dropped no two rows of a table share a key, if none did before.
use Rattle.std.proofs.Common.{◌≡◌, ℕ, Bool, true, false, cond, not, List, [], ◌∷◌, map, Option, Some, None, option_map, option_and_then, unwrap_or, Ok, fold, refl, sym, ap, ◌∙◌, subst, ⊎_elim, bytes_eq}
use Rattle.std.specs.Ordering.{eq_by_cmp}
use Rattle.std.specs.Cmp.Lexicographic.{nat_list_cmp_total, bytes_decides}
use Rattle.std.specs.FinMap.Entries.{find-put}
use Rattle.std.proofs.lemmas.Bool.{cases_Bool, not-false}
use Rattle.std.proofs.lemmas.Option.{none-some}
use Rattle.msi_pool.specs.FirstFitLaws.{TakenPlacesHoldTheirText, GivenBackTakesOne}
use Rattle.msi_base.specs.Lists.{list_cmp, has_pair}
use Rattle.msi_pool.specs.Pool.{Place}
use Rattle.msi_table_values.specs.declared.value.Value.{Value}
use Rattle.msi_table_values.specs.declared.value.Value.TheVariants.{Str}
use Rattle.msi_table_cells.specs.declared.cell.ValueRef.{ValueRef}
use Rattle.msi_table_values.specs.Columns.{ColumnDef}
use Rattle.msi_table_cells.specs.TableCells.{TableCells}
use Rattle.msi_query.specs.Rows.{table_values}
use Rattle.msi_database_schema.specs.Description.{column_rows, validation_rows}
use Rattle.msi_database_schema.specs.System.{columns_name, tables_name, validation_name}
use Rattle.msi_database_changes.specs.Database.{Database, table_at, with_table, is_sound}
use Rattle.msi_database_changes.specs.Changes.{Change, no_change}
use Rattle.msi_database_changes.specs.Create.{create_at_width}
use Rattle.msi_database_changes.specs.Drop.{is_row_about, rows_forgotten, table_released, drop_table}
use Rattle.msi_table_cells.specs.KeyOrder.{key_of, same_key}
use Rattle.msi_database_changes.specs.Laws.{rows_at, KeysAreDistinct}
use Rattle.msi_database_changes.proofs.steps.StoredLemmas.{WellFormed}
use Rattle.msi_database_changes.proofs.row_changes.InsertedLemmas.{inserted_parts, inserted_sound, inserted_well}
use Rattle.msi_database_changes.proofs.row_keys.KeysLemmas.{inserted_distinct}
use Rattle.msi_database_changes.proofs.row_keys.KeysKeptLemmas.{removed_distinct}
use Rattle.msi_database_changes.proofs.steps.RefusedLemmas.{first_fails}
use Rattle.msi_database_changes.proofs.steps.UntouchedTableLemmas.{released_leaves, rows_at_stay, table_gone}
use Rattle.msi_database_changes.proofs.table_changes.DropLemmas.{forgotten_by, released_keeps}
use Rattle.msi_database_changes.proofs.table_changes.DropRowsLemmas.{is_sound_dropped}
use Rattle.msi_database_changes.proofs.describing.ShownTablesLemmas.{Created, created}
use Rattle.msi_database_changes.proofs.describing.ShownChangesLemmas.{Dropped, dropped_parts}
use Rattle.msi_base.specs.declared.errors.ErrorKind.TheVariants.{InvalidData}
use Rattle.msi_base.proofs.BoolLemmas.{not_not}

-- a table without rows
module _ (d : Database) (name : List ℕ) (columns : List ColumnDef) (before : KeysAreDistinct d) where
  abbrev empty : TableCells
  empty = record { columns = columns; rows = Some [] }

  abbrev now : Database
  now = with_table name empty d

  found : (other : List ℕ) → table_at other now ≡ cond (eq_by_cmp list_cmp other name) (Some empty) (table_at other d)
  found other = find-put list_cmp nat_list_cmp_total other name empty d.tables

  abbrev told : Option TableCells → List (List Value)
  told o = unwrap_or (option_and_then (λ t. t.rows) (option_map (table_values d.pool.places) o)) []

  empty_distinct : (other : List ℕ) (u : TableCells) → table_at other now ≡ Some empty → table_at other now ≡ Some u → has_pair same_key (map (key_of u.columns) (rows_at other now)) ≡ false
  empty_distinct other u here is = ap (λ (o : Option TableCells). has_pair same_key (map (key_of u.columns) (told o))) here

  other_distinct : (other : List ℕ) (u : TableCells) → table_at other now ≡ table_at other d → table_at other now ≡ Some u → has_pair same_key (map (key_of u.columns) (rows_at other now)) ≡ false
  other_distinct other u there is = ap (λ (o : Option TableCells). has_pair same_key (map (key_of u.columns) (told o))) there ∙ before other u (sym there ∙ is)

  pub new_distinct : KeysAreDistinct now
  new_distinct other u is = ⊎_elim
      (λ (same : eq_by_cmp list_cmp other name ≡ true). empty_distinct other u (found other ∙ ap (λ b. cond b (Some empty) (table_at other d)) same) is)
      (λ (apart : eq_by_cmp list_cmp other name ≡ false). other_distinct other u (found other ∙ ap (λ b. cond b (Some empty) (table_at other d)) apart) is)
      (cases_Bool (eq_by_cmp list_cmp other name))

module _ (takes : TakenPlacesHoldTheirText) (gives : GivenBackTakesOne) where
  -- a table that is taken out
  module _ (b : Change) (name : List ℕ) (t : TableCells) (at : table_at name b.database ≡ Some t) (sound : is_sound b.database ≡ true) (well : WellFormed b.database) (before : KeysAreDistinct b.database) where
    abbrev left : Database
    left = (table_released name t b).database

    gone : (other : List ℕ) → name ≡ other → table_at other left ≡ None
    gone other same = subst (λ (n : List ℕ). table_at n left ≡ None) same (table_gone takes gives b name t at sound well ((bytes_decides name name).1 refl))

    released_distinct : KeysAreDistinct left
    released_distinct other u is = ⊎_elim
        (λ (same : bytes_eq name other ≡ true). absurd (none-some u (sym (gone other ((bytes_decides name other).0 same)) ∙ is)))
        (λ (apart : bytes_eq name other ≡ false).
        let s = (released_leaves takes gives b name t at sound well).others other apart in
        ap (λ (rs : List (List Value)). has_pair same_key (map (key_of u.columns) rs)) (rows_at_stay b.database left other s) ∙ before other u (sym s.at ∙ is))
        (cases_Bool (bytes_eq name other))

  -- rows about it that are forgotten
  forgotten_by_distinct : (name : List ℕ) (places : List Place) (system : List ℕ) (b : Change) (o : Option TableCells) → table_at system b.database ≡ o → is_sound b.database ≡ true → WellFormed b.database → KeysAreDistinct b.database
      → KeysAreDistinct (rows_forgotten name places system b).database
  forgotten_by_distinct name places system b None is sound well before = rw is before
  forgotten_by_distinct name places system b (Some t) is sound well before =
      let about : List ValueRef → Bool = is_row_about places name in
      let others : List ValueRef → Bool = λ row. not (is_row_about places name row) in
      let apart : (row : List ValueRef) → is_row_about places name row ≡ not (not (is_row_about places name row)) = λ row. not_not (is_row_about places name row) in
      rw is (removed_distinct takes gives b system t is sound well others about apart before)

  forgotten_distinct : (name : List ℕ) (places : List Place) (systems : List (List ℕ)) (b : Change) → is_sound b.database ≡ true → WellFormed b.database → KeysAreDistinct b.database
      → KeysAreDistinct (fold (λ c system. rows_forgotten name places system c) b systems).database
  forgotten_distinct name places [] b sound well before = before
  forgotten_distinct name places (s ∷ ss) b sound well before =
      let first = forgotten_by takes gives name places s b (table_at s b.database) refl sound well in
      forgotten_distinct name places ss (rows_forgotten name places s b) first.sound first.well (forgotten_by_distinct name places s b (table_at s b.database) refl sound well before)

  dropped_distinct : (d : Database) (name : List ℕ) (c : Change) → WellFormed d → Dropped d name c → KeysAreDistinct d → KeysAreDistinct c.database
  dropped_distinct d name c well p before =
      let sound = is_sound_dropped d name c p in
      let first = released_keeps takes gives (no_change d) name p.table p.at sound well in
      subst (λ (c : Change). KeysAreDistinct c.database) p.last
      (forgotten_distinct name d.pool.places (validation_name ∷ columns_name ∷ tables_name ∷ []) (table_released name p.table (no_change d)) first.sound first.well
      (released_distinct (no_change d) name p.table p.at sound well before))

  pub drop_distinct : (d : Database) (name : List ℕ) (c : Change) → WellFormed d → drop_table d name ≡ Ok c → KeysAreDistinct d → KeysAreDistinct c.database
  drop_distinct d name c well e = dropped_distinct d name c well (dropped_parts d name c e)

  created_distinct : (d : Database) (name : List ℕ) (columns : List ColumnDef) (c : Change) → WellFormed d → Created d name columns c → KeysAreDistinct d → KeysAreDistinct c.database
  created_distinct d name columns c well p before =
      let sound = not-false (is_sound d) (first_fails (not (is_sound d)) InvalidData [] p.sound).0 in
      let column_values = column_rows name columns in
      let name_values : List (List Value) = (Str name ∷ []) ∷ [] in
      let validation_values = validation_rows name columns in
      let i₁ = inserted_parts (no_change d) columns_name column_values p.first p.in_columns in
      let i₂ = inserted_parts p.first tables_name name_values p.second p.in_tables in
      let i₃ = inserted_parts p.second validation_name validation_values p.third p.in_validation in
      let sound₁ = inserted_sound takes gives (no_change d) columns_name column_values p.first sound well i₁ in
      let well₁ = inserted_well takes gives (no_change d) columns_name column_values p.first sound well i₁ in
      let sound₂ = inserted_sound takes gives p.first tables_name name_values p.second sound₁ well₁ i₂ in
      let well₂ = inserted_well takes gives p.first tables_name name_values p.second sound₁ well₁ i₂ in
      let d₁ = inserted_distinct takes gives (no_change d) columns_name column_values p.first sound well i₁ before in
      let d₂ = inserted_distinct takes gives p.first tables_name name_values p.second sound₁ well₁ i₂ d₁ in
      let d₃ = inserted_distinct takes gives p.second validation_name validation_values p.third sound₂ well₂ i₃ d₂ in
      subst (λ (c : Change). KeysAreDistinct c.database) p.last (new_distinct p.third.database name columns d₃)

  pub create_distinct : (d : Database) (name : List ℕ) (columns : List ColumnDef) (c : Change) → WellFormed d → create_at_width d name columns ≡ Ok c → KeysAreDistinct d → KeysAreDistinct c.database
  create_distinct d name columns c well e = created_distinct d name columns c well (created d name columns c e)
