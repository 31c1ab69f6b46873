-- The rows that describe a database's tables are those that its streams spell.
use Rattle.std.proofs.Common.{◌≡◌, ℕ, Bool, true, false, ◌&&◌, List, [], ◌∷◌, map, Option, Some, None, is_some, refl, sym, ap, subst, ◌∙◌, ⊎_elim}
use Rattle.std.specs.Prelude.{MatchBool, option_map, option_and_then, unwrap_or}
use Rattle.std.specs.Option.{option_map_or}
use Rattle.std.specs.List.{AllByRecursion}
use Rattle.std.specs.FinMap.{find}
use Rattle.std.specs.Ordering.{eq_by_cmp}
use Rattle.std.proofs.lemmas.Bool.{cases_Bool, and_parts, true≢false}
use Rattle.std.proofs.lemmas.Option.{none-some, same_Some, option_and_then_some}
use Rattle.std.proofs.lemmas.Slice.Eq.{bytes_eq-Decides}
use Rattle.msi_base.specs.Lists.{list_cmp}
use Rattle.msi_table_cells.specs.declared.cell.ValueRef.{ValueRef}
use Rattle.msi_table_values.specs.declared.value.Value.{Value}
use Rattle.msi_table_values.specs.Columns.{ColumnDef}
use Rattle.msi_table_cells.specs.CellValues.{row_values}
use Rattle.msi_database_schema.specs.Keys.{is_table_name, table_key}
use Rattle.msi_database_schema.specs.System.{tables_name, columns_name, validation_name, tables_columns, columns_columns, validation_columns}
use Rattle.msi_database_changes.specs.Database.{Database, Tables, table_at, has_table, is_sound, are_alike}
use Rattle.msi_table_cells.specs.TableCells.{TableCells}
use Rattle.msi_database_changes.specs.Laws.{rows_at}
use Rattle.msi_database_schema.specs.Schema.{SchemaRows, schema_of}
use Rattle.msi_database_schema.proofs.SchemaLemmas.{names_tie}
use Rattle.msi_database_changes.proofs.describing.AlikeColumnLemmas.{rows_alike}
use Rattle.msi_database_changes.proofs.describing.ShownTablesLemmas.{shown}
use Rattle.msi_database_changes.proofs.steps.StoredLemmas.{found_passes}
use Rattle.msi_database_changes.proofs.describing.DescribingLemmas.{describing, rows_at_is, validation_at}
use Rattle.msi_database_changes.proofs.describing.SchemaKeptLemmas.{shown_table}
use Rattle.msi_database_storage.specs.Streams.{Streams, stream_at}
use Rattle.msi_database_storage.specs.Streams.{stored_rows}
use Rattle.msi_database_storage.specs.Agreement.{TablesAre, UnlistedIs, SchemaIs, described_by, schema_rows}
use Rattle.msi_database.proofs.soundness.SoundLemmas.{sound_is}

-- a table has the rows of its stream
pub table_rows : (streams : Streams) (long : Bool) (tables : Tables) → AllByRecursion (λ t. t.1.rows ≡ stored_rows streams long t.1.columns t.0) tables
    → (name : List ℕ) (t : TableCells) → find list_cmp name tables ≡ Some t → t.rows ≡ stored_rows streams long t.columns name
table_rows streams long [] all name t e = absurd (none-some t e)
table_rows streams long (u ∷ us) all name t e = ⊎_elim
    (λ (same : eq_by_cmp list_cmp name u.0 ≡ true).
    let n : name ≡ u.0 = (bytes_eq-Decides name u.0).0 (sym (names_tie name u.0) ∙ same) in
    let is : u.1 ≡ t = same_Some u.1 t (rw same at e) in
    subst (λ (m : List ℕ). t.rows ≡ stored_rows streams long t.columns m) (sym n) (subst (λ (t : TableCells). t.rows ≡ stored_rows streams long t.columns u.0) is all.0))
    (λ (other : eq_by_cmp list_cmp name u.0 ≡ false). table_rows streams long us all.1 name t (rw other at e))
    (cases_Bool (eq_by_cmp list_cmp name u.0))

-- where streams spell tables
pub record Spelled (streams : Streams) (d : Database) : Type 0 where
  pub tables : TablesAre streams d
  pub unlisted : UnlistedIs streams d
  pub sound : is_sound d ≡ true

readable_by : (d : Database) → (o : Option (List (List ValueRef))) → is_some o ≡ true → option_map (map (row_values d.pool.places)) o ≡ Some (map (row_values d.pool.places) (unwrap_or o []))
readable_by d None e = absurd (true≢false (sym e))
readable_by d (Some rows) e = refl

module _ (streams : Streams) (d : Database) (h : Spelled streams d) where
  rows_there : (name : List ℕ) (t : TableCells) → table_at name d ≡ Some t → is_some t.rows ≡ true
  rows_there name t found = found_passes (λ t. is_some t.1.rows && is_table_name t.0) (λ (t : TableCells). is_some t.rows) (λ k v e. (and_parts (is_some v.rows) (is_table_name k) e).0) name t d.tables (sound_is d h.sound).readable found

  described : (name : List ℕ) (t : TableCells) → table_at name d ≡ Some t → (columns : List ColumnDef) → stored_rows streams d.pool.long columns name ≡ stored_rows streams d.pool.long t.columns name
      → described_by streams d.pool columns name ≡ Some (rows_at name d)
  described name t found columns same = ap (option_map (map (row_values d.pool.places))) (same ∙ sym (table_rows streams d.pool.long d.tables h.tables name t found))
      ∙ readable_by d t.rows (rows_there name t found) ∙ ap Some (sym (rows_at_is name d t found))

  with_columns : (name : List ℕ) (columns : List ColumnDef) → (t : TableCells) × (table_at name d ≡ Some t) × (t.columns ≡ columns) → described_by streams d.pool columns name ≡ Some (rows_at name d)
  with_columns name columns t = described name t.0 t.1 columns (ap (λ (columns : List ColumnDef). stored_rows streams d.pool.long columns name) (sym t.2))

  pub alike_there : (t : TableCells) → table_at validation_name d ≡ Some t → are_alike t.columns validation_columns ≡ true
  alike_there t found = ap (λ (o : Option TableCells). option_map_or (λ t. are_alike t.columns validation_columns) o true) (sym found) ∙ (sound_is d h.sound).standard

  validation_described : (o : Option TableCells) → table_at validation_name d ≡ o → described_by streams d.pool validation_columns validation_name ≡ Some (describing d).validation
  validation_described (Some t) e = described validation_name t e validation_columns (sym (rows_alike d.pool.long t.columns validation_columns (unwrap_or (stream_at (table_key validation_name) streams) []) (alike_there t e)))
      ∙ ap Some (sym (validation_at d (ap is_some e)))
  validation_described None e =
      let none : has_table validation_name d ≡ false = ap is_some e in
      let rows : stored_rows streams d.pool.long validation_columns validation_name ≡ Some d.unlisted_validation =
      subst (λ b. MatchBool b (d.unlisted_validation ≡ []) (stored_rows streams d.pool.long validation_columns validation_name ≡ Some d.unlisted_validation)) none h.unlisted in
      ap (option_map (map (row_values d.pool.places))) rows ∙ ap Some (sym (unlisted_at none))
    where
      unlisted_at : has_table validation_name d ≡ false → (describing d).validation ≡ map (row_values d.pool.places) d.unlisted_validation
      unlisted_at e = rw e refl

  joined : Option (List (List Value)) → Option (List (List Value)) → Option (List (List Value)) → Option SchemaRows
  joined tables columns validation = option_and_then (λ t. option_and_then (λ c. option_map (λ v. record { tables = t; columns = c; validation = v }) validation) columns) tables

  schema_rows_are : (s : SchemaRows) → schema_of s ≡ Some (shown d) → schema_rows streams d.pool ≡ Some (describing d)
  unfolding joined
  schema_rows_are s e =
      let tables = with_columns tables_name tables_columns (shown_table d s e tables_name tables_columns refl) in
      let columns = with_columns columns_name columns_columns (shown_table d s e columns_name columns_columns refl) in
      let validation = validation_described (table_at validation_name d) refl in
      λ i. joined (tables i) (columns i) (validation i)

  -- the schema of the streams is that of the rows
  pub schema_before : SchemaIs streams d → schema_of (describing d) ≡ Some (shown d)
  schema_before is = option_and_then_some schema_of (schema_rows streams d.pool) (shown d) is
      (λ s s_is e. sym (ap (option_and_then schema_of) (schema_rows_are s e)) ∙ is)

  pub schema_after : schema_of (describing d) ≡ Some (shown d) → SchemaIs streams d
  schema_after e = ap (option_and_then schema_of) (schema_rows_are (describing d) e) ∙ e
