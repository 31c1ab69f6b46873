-- Places that cells name keep their texts, so the rows of the system tables describe the same tables by the pool as it is stored and as it is read.
use Rattle.std.proofs.Common.{◌≡◌, ℕ, zero, suc, ◌+◌, ◌-◌, ◌<◌, Bool, true, false, cond, not, ◌&&◌, ◌==◌, List, [], ◌∷◌, ◌++◌, map, Option, Some, None, unwrap_or, slice_get, refl, sym, ap, subst, ◌∙◌, arith}
use Rattle.std.specs.Prelude.{IfSome, option_map, if◌then◌else◌}
use Rattle.std.specs.Option.{option_map_or}
use Rattle.std.specs.List.{AllByRecursion, enumerate_from, filter_map, list_any}
use Rattle.std.specs.FinMap.{find}
use Rattle.std.specs.Ordering.{eq_by_cmp}
use Rattle.std.proofs.lemmas.Bool.{eq-eqb, or_left, or_right}
use Rattle.std.proofs.lemmas.List.Folds.{list_any-append}
use Rattle.std.proofs.lemmas.Option.{none-some, option_and_then_some, same_Some}
use Rattle.std.proofs.lemmas.Slice.Eq.{bytes_eq-Decides}
use Rattle.msi_pool.specs.FirstFitLaws.{text_at}
use Rattle.msi_base.specs.Lists.{list_cmp}
use Rattle.msi_pool.specs.Pool.{Place, Pool, forgotten, with_named_texts}
use Rattle.msi_table_values.specs.declared.column.ColumnType.{ColumnType}
use Rattle.msi_table_values.specs.declared.value.Value.TheVariants as value
use Rattle.msi_table_cells.specs.declared.cell.ValueRef.{ValueRef}
use Rattle.msi_table_cells.specs.declared.cell.ValueRef.TheVariants as cell
use Rattle.msi_table_cells.specs.CellValues.{value_of_cell, row_values}
use Rattle.msi_table_values.specs.Columns.{ColumnDef, types_of}
use Rattle.msi_table.specs.Tables.{TableDef}
use Rattle.msi_table_cells.specs.Fitting.{FitsRow}
use Rattle.msi_database_schema.specs.Schema.{schema_of}
use Rattle.msi_database_schema.specs.System.{columns_columns, columns_name, tables_columns, tables_name, validation_columns, validation_name}
use Rattle.msi_database_schema.proofs.SchemaLemmas.{describes_from, names_tie}
use Rattle.msi_table.specs.Census.{number_of_cell, numbers_of_rows}
use Rattle.msi_database_changes.specs.Database.{rows_of}
use Rattle.msi_database_storage.specs.Streams.{Streams, stored_rows}
use Rattle.msi_database_storage.specs.StreamNames.{HoldBytes}
use Rattle.msi_database_storage.specs.Kept.{schema_listed, table_kept}
use Rattle.msi_database_storage.specs.Naming.{numbers_named, numbers_of_tables, pool_shown}
use Rattle.msi_database_storage.specs.Agreement.{schema_in, schema_rows}
use Rattle.msi_database_storage.proofs.ReadLemmas.{rows_read_fit, validation_read_fits, each_of}
use Rattle.msi_database_storage.proofs.ReadingLemmas.{schema_same}
use Rattle.msi_database.proofs.soundness.FitLemmas.{number_fits}

-- TEXTS OF NAMED PLACES

kept_text : (p : Place) (free named : Bool) → named ≡ true → (if free && not named then [] else p.text) ≡ p.text
kept_text p true true e = refl
kept_text p true false e = absurd cc
kept_text p false named e = refl

text_kept : (named : ℕ → Bool) (k i : ℕ) (places : List Place) → named (k + i) ≡ true
    → option_map_or (λ p. p.text) (slice_get (map (λ e. forgotten (named e.0) e.1) (enumerate_from k places)) i) [] ≡ option_map_or (λ p. p.text) (slice_get places i) []
text_kept named k i [] h = refl
text_kept named k zero (p ∷ ps) h = kept_text p (p.count == 0) (named k) (ap named (omega arith) ∙ h)
text_kept named k (suc i) (p ∷ ps) h = text_kept named (k + 1) i ps (ap named (omega arith) ∙ h)

text_shown : (named : ℕ → Bool) (places : List Place) (number : ℕ) → 0 < number → named number ≡ true → text_at (with_named_texts named places) number ≡ text_at places number
text_shown named places number some h = text_kept named 1 (number - 1) places (ap named (omega arith) ∙ h)

-- a cell whose number, if any, is named
abbrev IsNamed : (ℕ → Bool) → ValueRef → Type 0
IsNamed named (cell.Str number) = (0 < number) × (named number ≡ true)
IsNamed named _ = Unit {0}

value_shown : (named : ℕ → Bool) (places : List Place) (c : ValueRef) → IsNamed named c → value_of_cell (with_named_texts named places) c ≡ value_of_cell places c
value_shown named places cell.Null h = refl
value_shown named places (cell.Int n) h = refl
value_shown named places (cell.Str number) h = ap value.Str (text_shown named places number h.0 h.1)
value_shown named places cell.Binary h = refl

row_shown : (named : ℕ → Bool) (places : List Place) (row : List ValueRef) → AllByRecursion (IsNamed named) row → row_values (with_named_texts named places) row ≡ row_values places row
row_shown named places [] h = refl
row_shown named places (c ∷ cs) h = λ i. value_shown named places c h.0 i ∷ row_shown named places cs h.1 i

rows_shown : (named : ℕ → Bool) (places : List Place) (rows : List (List ValueRef)) → AllByRecursion (AllByRecursion (IsNamed named)) rows
    → map (row_values (with_named_texts named places)) rows ≡ map (row_values places) rows
rows_shown named places [] h = refl
rows_shown named places (row ∷ rows) h = λ i. row_shown named places row h.0 i ∷ rows_shown named places rows h.1 i

-- ROWS WHOSE NUMBERS ARE NAMED

abbrev has : List ℕ → ℕ → Bool
has numbers number = list_any (λ n. n == number) numbers

row_named : (named : ℕ → Bool) (long : Bool) (types : List ColumnType) (row : List ValueRef) → FitsRow long types row → ((n : ℕ) → has (filter_map number_of_cell row) n ≡ true → named n ≡ true) → AllByRecursion (IsNamed named) row
row_named named long [] [] f h = tt
row_named named long [] (c ∷ cs) f h = absurd f
row_named named long (t ∷ ts) [] f h = absurd f
row_named named long (t ∷ ts) (cell.Null ∷ cs) f h = (tt, row_named named long ts cs f.1 h)
row_named named long (t ∷ ts) (cell.Int n ∷ cs) f h = (tt, row_named named long ts cs f.1 h)
row_named named long (t ∷ ts) (cell.Str n ∷ cs) f h = ((number_fits long t n f.0, h n (or_left (n == n) (has (filter_map number_of_cell cs) n) (eq-eqb n n refl))), row_named named long ts cs f.1 (λ m later. h m (or_right (n == m) (has (filter_map number_of_cell cs) m) later)))
row_named named long (t ∷ ts) (cell.Binary ∷ cs) f h = (tt, row_named named long ts cs f.1 h)

rows_named : (named : ℕ → Bool) (long : Bool) (types : List ColumnType) (rows : List (List ValueRef)) → AllByRecursion (FitsRow long types) rows → ((n : ℕ) → has (numbers_of_rows rows) n ≡ true → named n ≡ true)
    → AllByRecursion (AllByRecursion (IsNamed named)) rows
rows_named named long types [] f h = tt
rows_named named long types (row ∷ rows) f h =
    let split = λ (n : ℕ). list_any-append (λ m. m == n) (filter_map number_of_cell row) (numbers_of_rows rows) in (
      row_named named long types row f.0 (λ n here. h n (split n ∙ or_left (has (filter_map number_of_cell row) n) (has (numbers_of_rows rows) n) here)),
      rows_named named long types rows f.1 (λ n later. h n (split n ∙ or_right (has (filter_map number_of_cell row) n) (has (numbers_of_rows rows) n) later)),
    )

option_shown : (named : ℕ → Bool) (places : List Place) (long : Bool) (types : List ColumnType) (o : Option (List (List ValueRef))) → IfSome o (AllByRecursion (FitsRow long types)) → ((n : ℕ) → has (numbers_of_rows (unwrap_or o [])) n ≡ true → named n ≡ true)
    → option_map (map (row_values (with_named_texts named places))) o ≡ option_map (map (row_values places)) o
option_shown named places long types None f h = refl
option_shown named places long types (Some rows) f h = ap Some (rows_shown named places rows (rows_named named long types rows f h))

-- TABLES THAT ARE LISTED

listed_by : (streams : Streams) (long : Bool) (name : List ℕ) (columns : List ColumnDef) (t : TableDef) (b : Bool) (others : Option (List ColumnDef)) (rest : List ℕ) (number : ℕ) → (b ≡ true → name ≡ t.name)
    → cond b (Some t.columns) others ≡ Some columns → has (numbers_of_rows (unwrap_or (stored_rows streams long columns name) [])) number ≡ true
    → (others ≡ Some columns → has rest number ≡ true) → has (numbers_of_rows (rows_of (table_kept streams long t).1) ++ rest) number ≡ true
listed_by streams long name columns t true others rest number same e h later =
    let here : has (numbers_of_rows (unwrap_or (stored_rows streams long t.columns t.name) [])) number ≡ true =
    subst (λ (cs : List ColumnDef). has (numbers_of_rows (unwrap_or (stored_rows streams long cs t.name) [])) number ≡ true) (sym (same_Some t.columns columns e))
    (subst (λ (m : List ℕ). has (numbers_of_rows (unwrap_or (stored_rows streams long columns m) [])) number ≡ true) (same refl) h) in
    list_any-append (λ n. n == number) (numbers_of_rows (unwrap_or (stored_rows streams long t.columns t.name) [])) rest ∙ or_left _ (has rest number) here
listed_by streams long name columns t false others rest number same e h later =
    list_any-append (λ n. n == number) (numbers_of_rows (unwrap_or (stored_rows streams long t.columns t.name) [])) rest ∙ or_right (has (numbers_of_rows (unwrap_or (stored_rows streams long t.columns t.name) [])) number) (has rest number) (later e)

listed_names : (streams : Streams) (long : Bool) (name : List ℕ) (columns : List ColumnDef) (tables : List TableDef) (number : ℕ) → find list_cmp name (schema_listed tables) ≡ Some columns
    → has (numbers_of_rows (unwrap_or (stored_rows streams long columns name) [])) number ≡ true → has (numbers_of_tables (map (table_kept streams long) tables)) number ≡ true
listed_names streams long name columns [] number e h = absurd (none-some columns e)
listed_names streams long name columns (t ∷ ts) number e h =
    listed_by streams long name columns t (eq_by_cmp list_cmp name t.name) (find list_cmp name (schema_listed ts)) (numbers_of_tables (map (table_kept streams long) ts)) number
    (λ same. (bytes_eq-Decides name t.name).0 (sym (names_tie name t.name) ∙ same)) e h (λ f. listed_names streams long name columns ts number f h)

-- the two tables that are always there
system_listed : (streams : Streams) (raw : Pool) (tables : List TableDef) → schema_in streams raw ≡ Some (schema_listed tables)
    → (find list_cmp tables_name (schema_listed tables) ≡ Some tables_columns) × (find list_cmp columns_name (schema_listed tables) ≡ Some columns_columns)
system_listed streams raw tables e = option_and_then_some schema_of (schema_rows streams raw) (schema_listed tables) e
    (λ s s_is is. ((describes_from s (schema_listed tables) is).found tables_name, (describes_from s (schema_listed tables) is).found columns_name))

-- THE SCHEMA, of tables that some pool describes

module _ (raw : Pool) (tables : List TableDef) (streams : Streams) (rows : List (List ValueRef)) (held : HoldBytes streams)
    (stored : stored_rows streams raw.long validation_columns validation_name ≡ Some rows) (other : Pool) (schema : schema_in streams other ≡ Some (schema_listed tables)) where
  of_table : (name : List ℕ) (columns : List ColumnDef) → find list_cmp name (schema_listed tables) ≡ Some columns → (n : ℕ)
      → has (numbers_of_rows (unwrap_or (stored_rows streams raw.long columns name) [])) n ≡ true → has (numbers_named streams raw.long tables rows) n ≡ true
  of_table name columns e n h = list_any-append (λ m. m == n) (numbers_of_tables (map (table_kept streams raw.long) tables)) (numbers_of_rows rows)
      ∙ or_left (has (numbers_of_tables (map (table_kept streams raw.long) tables)) n) (has (numbers_of_rows rows) n) (listed_names streams raw.long name columns tables n e h)

  of_rows : (n : ℕ) → has (numbers_of_rows (unwrap_or (stored_rows streams raw.long validation_columns validation_name) [])) n ≡ true → has (numbers_named streams raw.long tables rows) n ≡ true
  of_rows n h = list_any-append (λ m. m == n) (numbers_of_tables (map (table_kept streams raw.long) tables)) (numbers_of_rows rows)
      ∙ or_right (has (numbers_of_tables (map (table_kept streams raw.long) tables)) n) (has (numbers_of_rows rows) n)
      (subst (λ (o : Option (List (List ValueRef))). has (numbers_of_rows (unwrap_or o [])) n ≡ true) stored h)

  pub schema_by_raw : schema_in streams (pool_shown (numbers_named streams raw.long tables rows) raw) ≡ schema_in streams raw
  schema_by_raw =
      let named : ℕ → Bool = λ n. has (numbers_named streams raw.long tables rows) n in
      let found = system_listed streams other tables schema in
      schema_same streams (pool_shown (numbers_named streams raw.long tables rows) raw) raw
      (option_shown named raw.places raw.long (types_of tables_columns) (stored_rows streams raw.long tables_columns tables_name)
      (each_of raw.long tables_columns (stored_rows streams raw.long tables_columns tables_name) (rows_read_fit streams raw.long tables_columns tables_name held (omega arith))) (of_table tables_name tables_columns found.0))
      (option_shown named raw.places raw.long (types_of columns_columns) (stored_rows streams raw.long columns_columns columns_name)
      (each_of raw.long columns_columns (stored_rows streams raw.long columns_columns columns_name) (rows_read_fit streams raw.long columns_columns columns_name held (omega arith))) (of_table columns_name columns_columns found.1))
      (option_shown named raw.places raw.long (types_of validation_columns) (stored_rows streams raw.long validation_columns validation_name) (validation_read_fits streams raw.long held) of_rows)
