-- What reading a database rests on: the entries of streams, and the tables that the rows of the system tables describe.
use Rattle.std.proofs.Common.{◌≡◌, ℕ, ◌<◌, ◌≤◌, Bool, true, false, not, ◌||◌, ◌&&◌, List, [], ◌∷◌, map, Option, Some, None, Result, Ok, Err, refl, sym, ap, subst, ◌∙◌, arith, inl, inr, length, ⊎_elim}
use Rattle.std.specs.Prelude.{All, IfErr, IfOk, IfSome, ℤ, pos, negsuc, neg_ℤ, ◌≤ℤ◌, option_map, option_and_then, if◌then◌else◌, zip}
use Rattle.std.specs.List.{AllByRecursion}
use Rattle.std.proofs.lemmas.Bool.{cases_Bool, le-leb, true≢false}
use Rattle.std.proofs.lemmas.Option.{none-some, same_Some}
use Rattle.std.proofs.lemmas.Bool.Decides.{nat_tests}
use Rattle.std.proofs.lemmas.Int.{ints}
use Rattle.msi_base.specs.Lists.{all_present}
use Rattle.msi_base.specs.declared.errors.ErrorKind.{ErrorKind}
use Rattle.msi_base.specs.declared.errors.ErrorKind.TheVariants.{InvalidData, OutOfMemory}
use Rattle.msi_base.specs.declared.errors.ErrorKind.TheVariants as kinds
use Rattle.msi_base.specs.Results.{FailsAs, Gives}
use Rattle.msi_pool.specs.Pool.{Place, Pool}
use Rattle.msi_container_format.specs.Names.{is_name_length}
use Rattle.msi_table_values.specs.declared.column.ColumnType.TheVariants as coltype
use Rattle.msi_table_values.specs.declared.value.Value.{Value}
use Rattle.msi_table_cells.specs.declared.cell.ValueRef.{ValueRef}
use Rattle.msi_table_cells.specs.declared.cell.ValueRef.TheVariants as cell
use Rattle.msi_table_cells.specs.CellValues.{value_of_cell, row_values}
use Rattle.msi_table_values.specs.Columns.{ColumnDef, greatest_16, types_of}
use Rattle.msi_table.specs.Tables.{TableDef}
use Rattle.msi_table_cells.specs.Fitting.{FitsColumn, FitsRow, FitsTable}
use Rattle.msi_base.specs.Refusals.{IsRefusal, or_refused}
use Rattle.msi_database_schema.specs.RowOrders.{rows_of}
use Rattle.msi_table_values.specs.Values.{is_null, is_text}
use Rattle.msi_database_schema.specs.Schema.{SchemaRows, by_name, columns_of, listed_names, has_long_number, has_null, has_odd_name, is_faulty, is_of_16_bits, number_of, schema_of, table_with, tables_of}
use Rattle.msi_database_schema.proofs.SchemaLemmas.{no_fault}
use Rattle.msi_database_schema.specs.System.{columns_columns, columns_name, tables_columns, tables_name, validation_columns, validation_name}
use Rattle.msi_database_storage.specs.Streams.{Streams, stored_rows}
use Rattle.msi_database_storage.specs.StreamNames.{HaveShortNames, HoldBytes}
use Rattle.msi_database_storage.specs.Kept.{AreAsLong, schema_listed}
use Rattle.msi_database_storage.specs.Agreement.{described_by, schema_in}
use Rattle.msi_database_storage.proofs.ReadLemmas.{rows_read_fit}

-- ENTRIES

pub name_seen : {A : Type 0} (stream : List ℕ × List ℕ) (streams rest : Streams) → streams ≡ stream ∷ rest → 0 < length stream.0 → length stream.0 ≤ 31 → (HaveShortNames streams → A) → HaveShortNames rest → A
name_seen stream streams rest is some most h others = h (subst HaveShortNames (sym is) (fits, others)) where
  fits : is_name_length (length stream.0) ≡ true
  fits = grind (arith, nat_tests)

pub bytes_seen : {A : Type 0} (stream : List ℕ × List ℕ) (streams rest : Streams) → streams ≡ stream ∷ rest → All (λ b. b < 256) stream.1 → (HoldBytes streams → A) → HoldBytes rest → A
bytes_seen stream streams rest is held h others = h (subst HoldBytes (sym is) (held, others))

-- ROWS OF THE SYSTEM TABLES

-- a name that is no text is null
odd_by : (places : List Place) (long : Bool) (n : ℕ) (c : ValueRef) (odd others : Bool) → FitsColumn long (coltype.Str n) c → (odd ≡ true → others ≡ true)
    → (not (is_text (value_of_cell places c)) || odd) ≡ true → ((is_null (value_of_cell places c) || false) || others) ≡ true
odd_by places long n cell.Null odd others f later e = refl
odd_by places long n (cell.Int m) odd others f later e = absurd f
odd_by places long n (cell.Str m) odd others f later e = later e
odd_by places long n cell.Binary odd others f later e = absurd f

odd_is_null : (places : List Place) (long : Bool) (rows : List (List ValueRef)) → AllByRecursion (FitsRow long (types_of tables_columns)) rows
    → has_odd_name (map (row_values places) rows) ≡ true → has_null (map (row_values places) rows) ≡ true
odd_is_null places long [] f e = e
odd_is_null places long ([] ∷ rs) f e = absurd f.0
odd_is_null places long ((c ∷ []) ∷ rs) f e = odd_by places long 64 c (has_odd_name (map (row_values places) rs)) (has_null (map (row_values places) rs)) f.0.0 (odd_is_null places long rs f.1) e
odd_is_null places long ((c ∷ d ∷ cs) ∷ rs) f e = absurd f.0.1

-- numbers have 16 bits
short_number : (n : ℤ) → neg_ℤ (pos greatest_16) ≤ℤ n → n ≤ℤ pos greatest_16 → is_of_16_bits n ≡ true
short_number (pos n) low high = le-leb n greatest_16 (omega (arith, ints))
short_number (negsuc n) low high = le-leb n greatest_16 (omega (arith, ints))

short_cell : (places : List Place) (long : Bool) (c : ValueRef) → FitsColumn long coltype.Int16 c → is_of_16_bits (number_of (value_of_cell places c)) ≡ true
short_cell places long cell.Null f = refl
short_cell places long (cell.Int n) f = short_number n f.0 f.1
short_cell places long (cell.Str n) f = absurd f
short_cell places long cell.Binary f = absurd f

both_short : (a b others : Bool) → a ≡ true → b ≡ true → others ≡ false → (not (a && b) || others) ≡ false
both_short true true others e f h = h
both_short true false others e f h = absurd (true≢false (sym f))
both_short false b others e f h = absurd (true≢false (sym e))

numbers_short : (places : List Place) (long : Bool) (rows : List (List ValueRef)) → AllByRecursion (FitsRow long (types_of columns_columns)) rows → has_long_number (map (row_values places) rows) ≡ false
numbers_short places long [] f = refl
numbers_short places long ([] ∷ rs) f = absurd f.0
numbers_short places long ((a ∷ []) ∷ rs) f = absurd f.0.1
numbers_short places long ((a ∷ b ∷ []) ∷ rs) f = absurd f.0.1.1
numbers_short places long ((a ∷ b ∷ c ∷ []) ∷ rs) f = absurd f.0.1.1.1
numbers_short places long ((a ∷ b ∷ c ∷ d ∷ cs) ∷ rs) f =
    both_short (is_of_16_bits (number_of (value_of_cell places b))) (is_of_16_bits (number_of (value_of_cell places d))) (has_long_number (map (row_values places) rs))
    (short_cell places long b f.0.1.0) (short_cell places long d f.0.1.1.1.0) (numbers_short places long rs f.1)

-- THE TABLES THAT THEY DESCRIBE

listed_back : (long : Bool) (ts : List (List ℕ × List ColumnDef)) → schema_listed (map (table_with long) ts) ≡ ts
listed_back long [] = refl
listed_back long (t ∷ ts) = ap (λ (us : List (List ℕ × List ColumnDef)). t ∷ us) (listed_back long ts)

all_as_long : (long : Bool) (ts : List (List ℕ × List ColumnDef)) → AreAsLong long (map (table_with long) ts)
all_as_long long [] = tt
all_as_long long (t ∷ ts) = (refl, all_as_long long ts)

listed_by : (long odd : Bool) (o : Option (List (List ℕ × List ColumnDef))) (tables : List TableDef) → (if odd then None else option_map (map (table_with long)) o) ≡ Some tables
    → (o ≡ Some (schema_listed tables)) × AreAsLong long tables
listed_by long true o tables e = absurd (none-some tables e)
listed_by long false None tables e = absurd (none-some tables e)
listed_by long false (Some ts) tables e =
    subst (λ (us : List TableDef). (Some ts ≡ Some (schema_listed us)) × AreAsLong long us) (same_Some (map (table_with long) ts) tables e) (ap Some (sym (listed_back long ts)), all_as_long long ts)

undescribed_by : (long odd wide : Bool) (o : Option (List (List ℕ × List ColumnDef))) → (odd ≡ true → o ≡ None) → wide ≡ false
    → (if odd || wide then None else option_map (map (table_with long)) o) ≡ None → o ≡ None
undescribed_by long true wide o h short e = h refl
undescribed_by long false true o h short e = absurd (true≢false short)
undescribed_by long false false None h short e = refl
undescribed_by long false false (Some ts) h short e = absurd (none-some (map (table_with long) ts) (sym e))

null_faulty : (s : SchemaRows) → has_null s.tables ≡ true → is_faulty s ≡ true
null_faulty s null = ⊎_elim (λ (faulty : is_faulty s ≡ true). faulty) (λ (sound : is_faulty s ≡ false). absurd (true≢false (sym null ∙ (no_fault s sound).tables_full))) (cases_Bool (is_faulty s))

faulty_none : (s : SchemaRows) → is_faulty s ≡ true → schema_of s ≡ None
faulty_none s e = ap (λ b. if b then None else option_map (λ columns. by_name ((tables_name, tables_columns) ∷ (columns_name, columns_columns) ∷ zip (listed_names s) columns)) (all_present (map (columns_of s) (listed_names s)))) e

-- an error that stands for another's
pub refused_from : {A B : Type 0} (o : Option A) (p : Option B) (kind : ErrorKind) → (o ≡ None → p ≡ None) → IsRefusal (or_refused InvalidData o) kind → IsRefusal (or_refused InvalidData p) kind
refused_from o p kind h (inl memory) = inl memory
refused_from None p kind h (inr e) = let same : InvalidData ≡ kind = cc in inr (ap (or_refused InvalidData) (h refl) ∙ ap Err same)
refused_from (Some x) p kind h (inr e) = absurd cc

-- what is refused, of rows that cells give
fails_by : {A B : Type 0} (o : Option A) (p : Option B) (kind : ErrorKind) → (o ≡ None → p ≡ None) → FailsAs kind o → IsRefusal (or_refused InvalidData p) kind
fails_by o p kinds.InvalidData h e = inr (ap (or_refused InvalidData) (h e))
fails_by o p kinds.OutOfMemory h e = inl refl
fails_by o p _ h e = absurd e

-- WHAT THE STREAMS DESCRIBE

unfoldable pub joined : Option (List (List Value)) → Option (List (List Value)) → Option (List (List Value)) → Option SchemaRows
joined tables columns validation = option_and_then (λ t. option_and_then (λ c. option_map (λ v. record { tables = t; columns = c; validation = v }) validation) columns) tables

no_validation : (tables columns : Option (List (List Value))) → option_and_then schema_of (joined tables columns None) ≡ None
unfolding joined
no_validation None columns = refl
no_validation (Some t) None = refl
no_validation (Some t) (Some c) = refl

-- two pools by which rows have the same values
pub schema_same : (streams : Streams) (pool other : Pool) → described_by streams pool tables_columns tables_name ≡ described_by streams other tables_columns tables_name
    → described_by streams pool columns_columns columns_name ≡ described_by streams other columns_columns columns_name
    → described_by streams pool validation_columns validation_name ≡ described_by streams other validation_columns validation_name → schema_in streams pool ≡ schema_in streams other
unfolding joined
schema_same streams pool other t c v = λ i. option_and_then schema_of (joined (t i) (c i) (v i))

module _ (streams : Streams) (raw : Pool) where
  pub without_validation : stored_rows streams raw.long validation_columns validation_name ≡ None → schema_in streams raw ≡ None
  unfolding joined
  without_validation e = ap (λ o. option_and_then schema_of (joined (described_by streams raw tables_columns tables_name) (described_by streams raw columns_columns columns_name) (option_map (map (row_values raw.places)) o))) e
      ∙ no_validation (described_by streams raw tables_columns tables_name) (described_by streams raw columns_columns columns_name)

  pub schema_is : (tables columns validation : List (List Value)) → described_by streams raw tables_columns tables_name ≡ Some tables → described_by streams raw columns_columns columns_name ≡ Some columns
      → described_by streams raw validation_columns validation_name ≡ Some validation → schema_in streams raw ≡ schema_of (rows_of tables columns validation)
  unfolding joined
  schema_is tables columns validation t c v = λ i. option_and_then schema_of (joined (t i) (c i) (v i))

  -- of rows that cells give, those that describe no tables break a rule
  pub no_tables : (tables columns : List (List ValueRef)) (validation : List (List Value)) → AllByRecursion (FitsRow raw.long (types_of tables_columns)) tables → AllByRecursion (FitsRow raw.long (types_of columns_columns)) columns
      → tables_of raw.long (rows_of (map (row_values raw.places) tables) (map (row_values raw.places) columns) validation) ≡ None
      → schema_of (rows_of (map (row_values raw.places) tables) (map (row_values raw.places) columns) validation) ≡ None
  no_tables tables columns validation t c e =
      let s : SchemaRows = rows_of (map (row_values raw.places) tables) (map (row_values raw.places) columns) validation in
      undescribed_by raw.long (has_odd_name s.tables) (has_long_number s.columns) (schema_of s)
      (λ odd. faulty_none s (null_faulty s (odd_is_null raw.places raw.long tables t odd))) (numbers_short raw.places raw.long columns c) e

  rows_described : (rows : List (List ValueRef)) (o : Option (List (List ValueRef))) (columns : List ColumnDef) → IfSome o (FitsTable raw.long (types_of columns)) → (values : List (List Value)) → option_map (map (row_values raw.places)) o ≡ Some values
      → (rows : List (List ValueRef)) × AllByRecursion (FitsRow raw.long (types_of columns)) rows × (map (row_values raw.places) rows ≡ values)
  rows_described rows None columns f values e = absurd (none-some values e)
  rows_described rows (Some held) columns f values e = (held, f.each_row, same_Some (map (row_values raw.places) held) values e)

  -- so an error of describing them stands for the streams'
  pub described_fails : HoldBytes streams → (tables columns : List (List Value)) (validation : List (List Value)) → described_by streams raw tables_columns tables_name ≡ Some tables → described_by streams raw columns_columns columns_name ≡ Some columns
      → tables_of raw.long (rows_of tables columns validation) ≡ None → schema_of (rows_of tables columns validation) ≡ None
  described_fails held tables columns validation t c e =
      let ts = rows_described [] (stored_rows streams raw.long tables_columns tables_name) tables_columns (rows_read_fit streams raw.long tables_columns tables_name held (omega arith)) tables t in
      let cs = rows_described [] (stored_rows streams raw.long columns_columns columns_name) columns_columns (rows_read_fit streams raw.long columns_columns columns_name held (omega arith)) columns c in
      let same : rows_of (map (row_values raw.places) ts.0) (map (row_values raw.places) cs.0) validation ≡ rows_of tables columns validation = λ i. rows_of (ts.2 i) (cs.2 i) validation in
      subst (λ (s : SchemaRows). schema_of s ≡ None) same (no_tables ts.0 cs.0 validation ts.1 cs.1 (subst (λ (s : SchemaRows). tables_of raw.long s ≡ None) (sym same) e))

  -- the answer of describing them, as the streams'
  pub told_ok : (result : Result (List TableDef) ErrorKind) (long : Bool) (s : SchemaRows) → long ≡ raw.long → schema_in streams raw ≡ schema_of s → Gives (λ tables. tables) result (tables_of long s)
      → IfOk result (λ tables. schema_in streams raw ≡ Some (schema_listed tables))
  told_ok (Ok tables) long s wide is e = is ∙ (listed_by long (has_odd_name s.tables || has_long_number s.columns) (schema_of s) tables e).0
  told_ok (Err kind) long s wide is e = tt

  pub told_long : (result : Result (List TableDef) ErrorKind) (long : Bool) (s : SchemaRows) → long ≡ raw.long → Gives (λ tables. tables) result (tables_of long s) → IfOk result (AreAsLong raw.long)
  told_long (Ok tables) long s wide e = subst (λ b. AreAsLong b tables) wide (listed_by long (has_odd_name s.tables || has_long_number s.columns) (schema_of s) tables e).1
  told_long (Err kind) long s wide e = tt

  pub told_kind : (result : Result (List TableDef) ErrorKind) (long : Bool) (s : SchemaRows) → long ≡ raw.long → schema_in streams raw ≡ schema_of s → (tables_of raw.long s ≡ None → schema_of s ≡ None)
      → Gives (λ tables. tables) result (tables_of long s) → IfErr result (IsRefusal (or_refused InvalidData (schema_in streams raw)))
  told_kind (Ok tables) long s wide is h e = tt
  told_kind (Err kind) long s wide is h e = fails_by (tables_of long s) (schema_in streams raw) kind (λ none. is ∙ h (subst (λ b. tables_of b s ≡ None) wide none)) e

-- THE STANDARD COLUMNS OF `_Validation`

pub standard_stored : (streams : Streams) (standard : TableDef) (long : Bool) → standard ≡ table_with long (validation_name, validation_columns)
    → stored_rows streams long validation_columns validation_name ≡ stored_rows streams standard.long standard.columns standard.name
standard_stored streams standard long is = ap (λ (t : TableDef). stored_rows streams t.long t.columns t.name) (sym is)

-- where the stream of `_Validation` can't be read, nothing is described
pub unread_refused : (streams : Streams) (raw : Pool) (standard : TableDef) (kind : ErrorKind) → standard ≡ table_with raw.long (validation_name, validation_columns)
    → IsRefusal (or_refused InvalidData (stored_rows streams standard.long standard.columns standard.name)) kind → IsRefusal (or_refused InvalidData (schema_in streams raw)) kind
unread_refused streams raw standard kind is e = refused_from (stored_rows streams standard.long standard.columns standard.name) (schema_in streams raw) kind
    (λ none. without_validation streams raw (standard_stored streams standard raw.long is ∙ none)) e
