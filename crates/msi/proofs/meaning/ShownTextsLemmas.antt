-- Each number of the three tables that describe tables is named, so the texts that they tell are shown.
use Rattle.std.proofs.Common.{◌≡◌, ℕ, ◌<◌, ◌^◌, Bool, true, false, ◌==◌, nat_le, List, [], ◌∷◌, Option, Some, None, unwrap_or, slice_get, refl, sym, subst, ◌∙◌, arith}
use Rattle.std.specs.Prelude.{ℤ, pos, ◌-ℤ◌, option_and_then, if◌then◌else◌}
use Rattle.std.specs.Option.{option_map_or}
use Rattle.std.specs.List.{list_any, flat_map, filter_map, AllByRecursion}
use Rattle.std.proofs.lemmas.Bool.{or_left, or_right, eq-eqb, eqb-false}
use Rattle.std.proofs.lemmas.List.Folds.{list_any-append}
use Rattle.std.proofs.lemmas.Option.{option_and_then_some}
use Rattle.msi_base.specs.Lists.{tabulated, numbers_below}
use Rattle.msi_base.proofs.ListLemmas.{all_mapped}
use Rattle.msi_pool.specs.Pool.{Pool}
use Rattle.msi_pool.specs.References.{number_of}
use Rattle.msi_table_values.specs.declared.column.ColumnType.{ColumnType}
use Rattle.msi_table_values.specs.declared.column.ColumnType.TheVariants as coltype
use Rattle.msi_table.specs.ValueRef.{ValueRef}
use Rattle.msi_table.specs.ValueRef.TheVariants as cell
use Rattle.msi_table_values.specs.Columns.{ColumnDef, types_of}
use Rattle.msi_table.specs.Cells.{cell_in, row_count, row_in, rows_in}
use Rattle.msi_table.specs.TableCells.{TableCells}
use Rattle.msi_database_schema.specs.Keys.{table_key}
use Rattle.msi_database_schema.specs.System.{tables_name, columns_name, validation_name, tables_columns, columns_columns, validation_columns}
use Rattle.msi_database_schema.specs.Schema.{SchemaRows, schema_of}
use Rattle.msi_database_schema.proofs.SchemaLemmas.{table_of}
use Rattle.msi_table.specs.Census.{number_of_cell, numbers_of_rows}
use Rattle.msi_database.specs.Database.{Database, table_at, rows_of}
use Rattle.msi_database.specs.Database.{named_numbers, columns_by_name}
use Rattle.msi_database.proofs.SchemaKeptLemmas.{shown_table}
use Rattle.msi_database_storage.specs.Streams.{Streams, stream_at, stored_rows}
use Rattle.msi_database_storage.specs.Agreement.{TablesAre, numbers_stored, is_shown}
use Rattle.msi_database.proofs.soundness.DescribedLemmas.{table_rows}
use Rattle.msi_database.proofs.soundness.NamedPlacesLemmas.{found_any, numbers_of}
use Rattle.msi.proofs.meaning.ShownPoolLemmas.{IsNamed, AreNamed, OptionNamed, CoversSchema}

-- A CELL THAT IS READ NAMES NO PLACE, OR ONE OF A NUMBER ABOVE 0

abbrev IsAbove : ValueRef → Type 0
IsAbove (cell.Str number) = 0 < number
IsAbove _ = Unit {0}

number_above : (b : Bool) (z : ℤ) → IsAbove (if b then cell.Null else cell.Int z)
number_above true z = tt
number_above false z = tt

text_above : (n : ℕ) (b : Bool) → (n == 0) ≡ b → IsAbove (if b then cell.Null else cell.Str n)
text_above n true e = tt
text_above n false e = let some = eqb-false n 0 e in omega (arith, some)

cell_above : (t : ColumnType) (bytes : List ℕ) → IsAbove (cell_in t bytes)
cell_above coltype.Int16 bytes = number_above (number_of bytes == 0) (pos (number_of bytes) -ℤ pos (2 ^ 15))
cell_above coltype.Int32 bytes = number_above (number_of bytes == 0) (pos (number_of bytes) -ℤ pos (2 ^ 31))
cell_above (coltype.Str n) bytes = text_above (number_of bytes) (number_of bytes == 0) refl
cell_above coltype.Binary bytes = tt

option_above : (f : ColumnType → ValueRef) → ((t : ColumnType) → IsAbove (f t)) → (o : Option ColumnType) → IsAbove (option_map_or f o cell.Null)
option_above f h None = tt
option_above f h (Some t) = h t

row_above : (long : Bool) (types : List ColumnType) (bytes : List ℕ) (i : ℕ) → AllByRecursion IsAbove (row_in long types bytes i)
row_above long types bytes i = all_mapped IsAbove _ (λ j. option_above _ (λ t. cell_above t _) (slice_get types j)) _

abbrev AreAbove : Option (List (List ValueRef)) → Type 0
AreAbove None = Unit {0}
AreAbove (Some rows) = AllByRecursion (AllByRecursion IsAbove) rows

rows_above : (long : Bool) (types : List ColumnType) (bytes : List ℕ) → AreAbove (rows_in long types bytes)
rows_above long types bytes = elim (nat_le (row_count long types bytes) 65536) as (λ b. AreAbove (if b then Some (tabulated (row_count long types bytes) (row_in long types bytes)) else None)) [
  | true ↦ all_mapped (AllByRecursion IsAbove) (row_in long types bytes) (row_above long types bytes) (numbers_below (row_count long types bytes))
  | false ↦ tt
]

-- ROWS WHOSE NUMBERS ARE NAMED

abbrev passes : List ℕ → ℕ → Type 0
passes named number = list_any (λ n. n == number) named ≡ true

module _ (is_named : ℕ → Bool) where
  row_named : (row : List ValueRef) → AllByRecursion IsAbove row → ((n : ℕ) → passes (filter_map number_of_cell row) n → is_named n ≡ true) → AllByRecursion (IsNamed is_named) row
  row_named [] above h = tt
  row_named (cell.Null ∷ cs) above h = (tt, row_named cs above.1 h)
  row_named (cell.Int n ∷ cs) above h = (tt, row_named cs above.1 h)
  row_named (cell.Str n ∷ cs) above h = ((above.0, h n (or_left _ _ (eq-eqb n n refl))), row_named cs above.1 (λ m later. h m (or_right _ _ later)))
  row_named (cell.Binary ∷ cs) above h = (tt, row_named cs above.1 h)

  rows_named : (rows : List (List ValueRef)) → AllByRecursion (AllByRecursion IsAbove) rows → ((n : ℕ) → passes (numbers_of_rows rows) n → is_named n ≡ true) → AreNamed is_named rows
  rows_named [] above h = tt
  rows_named (row ∷ rows) above h =
      let split = λ (n : ℕ). list_any-append (λ m. m == n) (filter_map number_of_cell row) (numbers_of_rows rows) in
      (row_named row above.0 (λ n here. h n (split n ∙ or_left _ _ here)), rows_named rows above.1 (λ n later. h n (split n ∙ or_right _ _ later)))

  option_named : (o : Option (List (List ValueRef))) → AreAbove o → ((n : ℕ) → passes (numbers_of_rows (unwrap_or o [])) n → is_named n ≡ true) → OptionNamed is_named o
  option_named None above h = tt
  option_named (Some rows) above h = rows_named rows above h

stored_above : (streams : Streams) (long : Bool) (columns : List ColumnDef) (name : List ℕ) → AreAbove (stored_rows streams long columns name)
stored_above streams long columns name = rows_above long (types_of columns) (unwrap_or (stream_at (table_key name) streams) [])

-- WHAT A TABLE THAT IS FOUND NAMES

-- THE TWO TABLES THAT ARE ALWAYS THERE

system_found : (d : Database) (o : Option SchemaRows) → option_and_then schema_of o ≡ Some (columns_by_name d) → (name : List ℕ) (columns : List ColumnDef)
    → ((s : SchemaRows) → table_of s name ≡ Some columns) → (t : TableCells) × (table_at name d ≡ Some t) × (t.columns ≡ columns)
system_found d o e name columns is = option_and_then_some schema_of o (columns_by_name d) e (λ s s_is f. shown_table d s f name columns (is s))

module _ (streams : Streams) (d : Database) (tables : TablesAre streams d) (o : Option SchemaRows) (read : option_and_then schema_of o ≡ Some (columns_by_name d)) where
  -- a number that a found table's stream names is shown
  stream_shown : (name : List ℕ) (t : TableCells) → table_at name d ≡ Some t → (n : ℕ) → passes (numbers_of_rows (unwrap_or (stored_rows streams d.pool.long t.columns name) [])) n → is_shown streams d n ≡ true
  stream_shown name t found n h =
      let here : passes (numbers_of_rows (rows_of t)) n = subst (λ (o : Option (List (List ValueRef))). passes (numbers_of_rows (unwrap_or o [])) n)
      (sym (table_rows streams d.pool.long d.tables tables name t found)) h in
      list_any-append (λ m. m == n) (named_numbers d) (numbers_stored streams d.pool.long)
      ∙ or_left _ _ (list_any-append (λ m. m == n) (flat_map numbers_of d.tables) (numbers_of_rows d.unlisted_validation)
      ∙ or_left _ _ (found_any (λ m. m == n) name t d.tables found here))

  system_named : (name : List ℕ) (columns : List ColumnDef) → ((s : SchemaRows) → table_of s name ≡ Some columns) → OptionNamed (is_shown streams d) (stored_rows streams d.pool.long columns name)
  system_named name columns is =
      let t = system_found d o read name columns is in
      option_named (is_shown streams d) (stored_rows streams d.pool.long columns name) (stored_above streams d.pool.long columns name)
      (λ n h. stream_shown name t.0 t.1 n (subst (λ (cs : List ColumnDef). passes (numbers_of_rows (unwrap_or (stored_rows streams d.pool.long cs name) [])) n) (sym t.2) h))

  validation_named : OptionNamed (is_shown streams d) (stored_rows streams d.pool.long validation_columns validation_name)
  validation_named = option_named (is_shown streams d) (stored_rows streams d.pool.long validation_columns validation_name) (stored_above streams d.pool.long validation_columns validation_name)
      (λ n h. list_any-append (λ m. m == n) (named_numbers d) (numbers_stored streams d.pool.long) ∙ or_right _ _ h)

  -- what the schema reads is named
  pub covers_schema : (raw : Pool) → d.pool.long ≡ raw.long → CoversSchema streams (is_shown streams d) raw
  covers_schema raw same = record {
    tables = subst (λ (l : Bool). OptionNamed (is_shown streams d) (stored_rows streams l tables_columns tables_name)) same (system_named tables_name tables_columns (λ s. refl));
    columns = subst (λ (l : Bool). OptionNamed (is_shown streams d) (stored_rows streams l columns_columns columns_name)) same (system_named columns_name columns_columns (λ s. refl));
    validation = subst (λ (l : Bool). OptionNamed (is_shown streams d) (stored_rows streams l validation_columns validation_name)) same validation_named;
  }
