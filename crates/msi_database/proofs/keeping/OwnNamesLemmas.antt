-- No change stores a stream twice.
use Rattle.std.proofs.Common.{◌≡◌, ℕ, true, false, List, [], ◌∷◌, ◌++◌, Option, Some, None, is_some, Ok, refl, sym, ap, subst, ◌∙◌, ◌⊎◌, inl, inr, bytes_eq}
use Rattle.std.specs.List.{list_any}
use Rattle.std.proofs.lemmas.Bool.{or_parts, or_from, not-false}
use Rattle.msi_pool.specs.Pool.{Place}
use Rattle.msi_table_values.specs.declared.value.Value.{Value}
use Rattle.msi_table_values.specs.declared.value.Value.TheVariants.{Str}
use Rattle.msi_table_values.specs.Columns.{ColumnDef}
use Rattle.msi_table_cells.specs.TableCells.{TableCells}
use Rattle.msi_database_schema.specs.System.{is_schema_table, tables_name, columns_name, validation_name, tables_columns}
use Rattle.msi_database_schema.specs.Schema.{schema_of}
use Rattle.msi_database_schema.specs.Description.{column_rows, validation_rows}
use Rattle.msi_database_schema.proofs.FaultLemmas.{texts_flip}
use Rattle.msi_database_changes.specs.Database.{Database, table_at, has_table, is_sound}
use Rattle.msi_database_changes.specs.Changes.{Change, no_change}
use Rattle.msi_database_changes.specs.Create.{create_at_width, table_refusals}
use Rattle.msi_database_changes.specs.Drop.{drop_table, rows_forgotten, table_released}
use Rattle.msi_database_changes.specs.AddColumn.{add_column_at_width}
use Rattle.msi_database_changes.proofs.steps.AtWidthLemmas.{IsChangeAtWidth, IsTableChangeAtWidth, inserted, updated, deleted, created, dropped, column_added}
use Rattle.msi_database_changes.proofs.steps.RefusedLemmas.{none_holds}
use Rattle.msi_database_changes.proofs.row_changes.InsertedLemmas.{Inserted, inserted_parts}
use Rattle.msi_database_changes.proofs.row_changes.InsertLemmas.{insert_parts}
use Rattle.msi_database_changes.proofs.row_changes.UpdateLemmas.{update_parts}
use Rattle.msi_database_changes.proofs.row_changes.DeleteLemmas.{delete_parts}
use Rattle.msi_database_changes.proofs.describing.ShownTablesLemmas.{shown}
use Rattle.msi_database_changes.proofs.describing.ShownTablesLemmas as steps
use Rattle.msi_database_changes.proofs.describing.ShownChangesLemmas.{dropped_parts}
use Rattle.msi_database_changes.proofs.describing.DescribingLemmas.{describing}
use Rattle.msi_database_changes.proofs.describing.SchemaKeptLemmas.{shown_table}
use Rattle.msi_database_changes.proofs.table_changes.DropTracksLemmas.{not_among}
use Rattle.msi_database_changes.proofs.table_changes.ColumnAddedLemmas.{accepts, apart_from, column_parts, column_values, validation_values}
use Rattle.msi_database_changes.specs.Storing.{HaveOwnNames}
use Rattle.msi_database_storage.specs.Storing.{tables_stored}
use Rattle.msi_database_storage.specs.Kept.{Kept}
use Rattle.msi_database.specs.Keeping.{IsKeptDatabase}
use Rattle.msi_database.proofs.keeping.AcceptedRowChangeLemmas.{missing_apart}
use Rattle.msi_database.proofs.keeping.AcceptedChangeLemmas.{are_names, describes}
use Rattle.msi_database.proofs.keeping.KeepingLemmas.{change_comes}
use Rattle.msi_database_storage.proofs.EditLemmas.{AreApart, own_names}

-- NAMES PUT BEHIND OTHERS

pub apart_last : (names : List (List ℕ)) (other : List ℕ) → AreApart names → list_any (bytes_eq other) names ≡ false → AreApart (names ++ other ∷ [])
apart_last [] other apart h = (refl, tt)
apart_last (n ∷ ns) other apart h =
    let parts = or_parts (bytes_eq other n) (list_any (bytes_eq other) ns) h in
    (not_among n other ns apart.0 (texts_flip n other ∙ parts.0), apart_last ns other apart.1 parts.1)

-- A TABLE CREATED

stored_behind : (b : Change) (name : List ℕ) (values : List (List Value)) (c : Change) → Inserted b name values c → c.stored ≡ b.stored ++ name ∷ []
stored_behind b name values c p = ap (λ (x : Change). x.stored) (sym p.stored)

has_value : (o : Option TableCells) → is_some o ≡ true → (t : TableCells) × (o ≡ Some t)
has_value None e = cc
has_value (Some t) e = (t, refl)

module _ (d : Database) (before : schema_of (describing d) ≡ Some (shown d)) (name : List ℕ) (columns : List ColumnDef) (c : Change) (e : create_at_width d name columns ≡ Ok c) where
  created_names : c.stored ≡ columns_name ∷ tables_name ∷ validation_name ∷ name ∷ []
  created_names =
      let r = steps.created d name columns c e in
      let s1 = stored_behind (no_change d) columns_name (column_rows name columns) r.first (inserted_parts (no_change d) columns_name (column_rows name columns) r.first r.in_columns) in
      let s2 = stored_behind r.first tables_name ((Str name ∷ []) ∷ []) r.second (inserted_parts r.first tables_name ((Str name ∷ []) ∷ []) r.second r.in_tables) in
      let s3 = stored_behind r.second validation_name (validation_rows name columns) r.third (inserted_parts r.second validation_name (validation_rows name columns) r.third r.in_validation) in
      ap (λ (x : Change). x.stored) (sym r.last)
      ∙ ap (λ (ns : List (List ℕ)). ns ++ name ∷ []) (s3 ∙ ap (λ (ns : List (List ℕ)). ns ++ validation_name ∷ []) (s2 ∙ ap (λ (ns : List (List ℕ)). ns ++ tables_name ∷ []) s1))

  -- the name is none of a system table
  pub created_apart : list_any (bytes_eq name) (columns_name ∷ tables_name ∷ validation_name ∷ []) ≡ false
  created_apart =
      let r = steps.created d name columns c e in
      let faults = none_holds (table_refusals d name columns) r.accepted in
      let missing : has_table name d ≡ false = faults.1.1.1.1.1.1.1.0 in
      let validation = has_value (table_at validation_name d) (not-false (has_table validation_name d) faults.1.1.1.1.1.1.1.1.0) in
      let tables = shown_table d (describing d) before tables_name tables_columns refl in
      let in_columns = inserted_parts (no_change d) columns_name (column_rows name columns) r.first r.in_columns in
      or_from (bytes_eq name columns_name) _ (missing_apart columns_name name d in_columns.table in_columns.found missing)
      (or_from (bytes_eq name tables_name) _ (missing_apart tables_name name d tables.0 tables.1 missing)
      (or_from (bytes_eq name validation_name) false (missing_apart validation_name name d validation.0 validation.1 missing) refl))

  pub create_apart : AreApart c.stored
  create_apart = subst AreApart (sym created_names) (apart_last (columns_name ∷ tables_name ∷ validation_name ∷ []) name (refl, (refl, (refl, tt))) created_apart)

-- A TABLE DROPPED

-- rows that are forgotten are stored, where there is a table
forgotten_either : (P : List (List ℕ) → Type 0) (name : List ℕ) (places : List Place) (system : List ℕ) (b : Change) (o : Option TableCells) → table_at system b.database ≡ o
    → P b.stored → P (b.stored ++ system ∷ []) → P (rows_forgotten name places system b).stored
forgotten_either P name places system b None is h k = rw is h
forgotten_either P name places system b (Some t) is h k = rw is k

module _ (d : Database) (name : List ℕ) (c : Change) (e : drop_table d name ≡ Ok c) where
  pub drop_apart : AreApart c.stored
  drop_apart =
      let p = dropped_parts d name c e in
      let r = or_parts (is_schema_table name) (bytes_eq name validation_name) p.no_system in
      let q = or_parts (bytes_eq name tables_name) (bytes_eq name columns_name) r.0 in
      let b₀ = table_released name p.table (no_change d) in
      let b₁ = rows_forgotten name d.pool.places validation_name b₀ in
      let b₂ = rows_forgotten name d.pool.places columns_name b₁ in
      let v₀ : list_any (bytes_eq validation_name) b₀.stored ≡ false = or_from (bytes_eq validation_name name) false (texts_flip validation_name name ∙ r.1) refl in
      let c₀ : list_any (bytes_eq columns_name) b₀.stored ≡ false = or_from (bytes_eq columns_name name) false (texts_flip columns_name name ∙ q.1) refl in
      let t₀ : list_any (bytes_eq tables_name) b₀.stored ≡ false = or_from (bytes_eq tables_name name) false (texts_flip tables_name name ∙ q.0) refl in
      let a₁ = forgotten_either AreApart name d.pool.places validation_name b₀ (table_at validation_name b₀.database) refl (refl, tt) (apart_last b₀.stored validation_name (refl, tt) v₀) in
      let c₁ = forgotten_either (λ ns. list_any (bytes_eq columns_name) ns ≡ false) name d.pool.places validation_name b₀ (table_at validation_name b₀.database) refl c₀ (not_among columns_name validation_name b₀.stored c₀ refl) in
      let t₁ = forgotten_either (λ ns. list_any (bytes_eq tables_name) ns ≡ false) name d.pool.places validation_name b₀ (table_at validation_name b₀.database) refl t₀ (not_among tables_name validation_name b₀.stored t₀ refl) in
      let a₂ = forgotten_either AreApart name d.pool.places columns_name b₁ (table_at columns_name b₁.database) refl a₁ (apart_last b₁.stored columns_name a₁ c₁) in
      let t₂ = forgotten_either (λ ns. list_any (bytes_eq tables_name) ns ≡ false) name d.pool.places columns_name b₁ (table_at columns_name b₁.database) refl t₁ (not_among tables_name columns_name b₁.stored t₁ refl) in
      subst (λ (x : Change). AreApart x.stored) p.last
      (forgotten_either AreApart name d.pool.places tables_name b₂ (table_at tables_name b₂.database) refl a₂ (apart_last b₂.stored tables_name a₂ t₂))

-- A COLUMN ADDED

module _ (d : Database) (name : List ℕ) (column : ColumnDef) (c : Change) (e : add_column_at_width d name column ≡ Ok c) where
  column_names : c.stored ≡ columns_name ∷ validation_name ∷ name ∷ []
  column_names =
      let r = column_parts d name column c e in
      let s1 = stored_behind (no_change d) columns_name (column_values name r.table column) r.first (inserted_parts (no_change d) columns_name (column_values name r.table column) r.first r.in_columns) in
      let s2 = stored_behind r.first validation_name (validation_values name column) r.second (inserted_parts r.first validation_name (validation_values name column) r.second r.in_validation) in
      ap (λ (x : Change). x.stored) (sym r.last)
      ∙ ap (λ (ns : List (List ℕ)). ns ++ name ∷ []) (s2 ∙ ap (λ (ns : List (List ℕ)). ns ++ validation_name ∷ []) s1)

  -- the name is none of the two system tables
  pub column_apart : list_any (bytes_eq name) (columns_name ∷ validation_name ∷ []) ≡ false
  column_apart =
      let r = column_parts d name column c e in
      let apart = apart_from name (accepts d name r.table column r.passed r.at).free in
      or_from (bytes_eq name columns_name) _ apart.columns (or_from (bytes_eq name validation_name) false apart.validation refl)

  pub column_names_apart : AreApart c.stored
  column_names_apart = subst AreApart (sym column_names) (apart_last (columns_name ∷ validation_name ∷ []) name (refl, (refl, tt)) column_apart)

-- ANY CHANGE

alone_apart : (c : Change) (name : List ℕ) → c.stored ≡ name ∷ [] → AreApart c.stored
alone_apart c name e = subst AreApart (sym e) (refl, tt)

module _ (k : Kept) (c : Change) (h : IsKeptDatabase k) (sound : is_sound k.database ≡ true) where
  change_apart : IsChangeAtWidth k.database c ⊎ IsTableChangeAtWidth k.database c → AreApart c.stored
  change_apart (inl (inserted q e)) = alone_apart c q.table (ap (λ (x : Change). x.stored) (sym (insert_parts k.database q c e).1.stored))
  change_apart (inl (updated q e)) = alone_apart c q.table (ap (λ (x : Change). x.stored) (sym (update_parts k.database q c e).stored))
  change_apart (inl (deleted q e)) = alone_apart c q.table (ap (λ (x : Change). x.stored) (sym (delete_parts k.database q c e).stored))
  change_apart (inr (created name columns e)) = create_apart k.database (describes k h sound) name columns c e
  change_apart (inr (dropped name e)) = drop_apart k.database name c e
  change_apart (inr (column_added name column e)) = column_names_apart k.database name column c e

  pub change_own_names : IsChangeAtWidth k.database c ⊎ IsTableChangeAtWidth k.database c → HaveOwnNames (tables_stored c.database c.stored)
  change_own_names change = own_names c.database c.stored (are_names c.stored (change_comes k c h sound change).tracks.names) (change_apart change)
