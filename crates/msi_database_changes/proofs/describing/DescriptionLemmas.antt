-- A schema doesn't depend on the last column of `_Validation`.
use Rattle.std.proofs.Common.{◌≡◌, ℕ, zero, suc, ◌+◌, ◌<◌, Bool, true, List, [], ◌∷◌, length, take, refl, sym, ap, ◌∙◌, arith, Some, None}
use Rattle.std.specs.Prelude.{nat_lt, ◌==◌, zip, codes, position, set, option_and_then, ◌&&◌, ◌||◌, not, Option, map, option_map, find, slice_get, unwrap_or, if◌then◌else◌, bytes_eq, IsPermutation}
use Rattle.std.specs.List.{AllByRecursion, prefix_len, list_all, list_any}
use Rattle.std.proofs.lemmas.List.{take-set-le}
use Rattle.std.proofs.lemmas.Bool.{and_parts}
use Rattle.msi_base.specs.Lists.{all_present, has_pair, tabulated}
use Rattle.msi_table_values.specs.declared.value.Value.{Value}
use Rattle.msi_table_values.specs.declared.value.Value.TheVariants.{Null}
use Rattle.msi_table_values.specs.Columns.{ColumnDef, begun_column, column_index, column_of_bits}
use Rattle.msi_query.specs.Queries.{UpdateQuery}
use Rattle.msi_query_expressions.specs.Conditions.{meets}
use Rattle.msi_database_schema.specs.Keys.{is_pool_name}
use Rattle.msi_database_schema.specs.System.{columns_columns, columns_name, tables_columns, tables_name, validation_columns}
use Rattle.msi_table_cells.specs.TableCells.{TableCells}
use Rattle.msi_database_changes.specs.Database.{are_alike}
use Rattle.msi_database_changes.specs.Setting.{index_of, values_set}
use Rattle.msi_database_changes.specs.Update.{values_after}
use Rattle.msi_database_schema.specs.Schema.{bits_in, by_name, counted, has_null, numbered_row, SchemaRows, column_of_row, column_rows, columns_of, described, is_faulty, lacks_value, listed_names, schema_of, share_key, text_at, text_of, validation_row, value_at}
use Rattle.msi_base.proofs.ListLemmas.{list_any-map, list_any_same, find-map, has_pair-map}
use Rattle.msi_base.proofs.BoolLemmas.{by_test}
use Rattle.msi_database_schema.proofs.SchemaLemmas.{Described, describes_from, schema_from}
use Rattle.msi_database_schema.proofs.OrderlessLemmas.{HasKinds, IsReordered, IsValidationRow, describes_reordered_too, texts_same, validates}

-- all but Description
abbrev pub front : List Value → List Value
front row = take 9 row

abbrev pub trimmed : SchemaRows → SchemaRows
trimmed s = record s { validation = map front s.validation }

get_front : {X : Type 0} (n j : ℕ) (xs : List X) → j < n → slice_get (take n xs) j ≡ slice_get xs j
get_front zero j xs h = absurd (omega arith)
get_front (suc n) j [] h = refl
get_front (suc n) zero (x ∷ xs) h = refl
get_front (suc n) (suc j) (x ∷ xs) h = get_front n j xs (omega arith)

pub value_front : (j : ℕ) (row : List Value) → j < 9 → value_at j (front row) ≡ value_at j row
value_front j row h = ap (λ (o : Option Value). unwrap_or o Null) (get_front 9 j row h)

text_front : (j : ℕ) (row : List Value) → j < 9 → text_at j (front row) ≡ text_at j row
text_front j row h = ap text_of (value_front j row h)

validates_front : (table column : List ℕ) (row : List Value) → validates table column (front row) ≡ validates table column row
validates_front table column row = λ i. bytes_eq (text_front 0 row (omega arith) i) table && bytes_eq (text_front 1 row (omega arith) i) column

share_front : (a b : List Value) → share_key 2 (front a) (front b) ≡ share_key 2 a b
share_front a b = rw (value_front 0 a (omega arith), value_front 1 a (omega arith), value_front 0 b (omega arith), value_front 1 b (omega arith)) refl

described_front : (o : Option (List Value)) (c : ColumnDef) → described (option_map front o) c ≡ described o c
described_front None c = refl
described_front (Some row) c = rw (text_front 2 row (omega arith), value_front 3 row (omega arith), value_front 4 row (omega arith), value_front 5 row (omega arith), value_front 6 row (omega arith), text_front 7 row (omega arith), value_front 8 row (omega arith)) refl

lacks_front : (s : SchemaRows) (row : List Value) → lacks_value s (front row) ≡ lacks_value s row
lacks_front s row = rw (value_front 0 row (omega arith), value_front 1 row (omega arith), value_front 2 row (omega arith)) refl

module _ (s : SchemaRows) where
  looked_up : (table column : List ℕ) → validation_row (trimmed s) table column ≡ option_map front (validation_row s table column)
  looked_up table column = find-map (validates table column) front s.validation ∙ (λ i. option_map front (find (λ row. validates_front table column row i) s.validation))

  described_trimmed : (table column : List ℕ) (c : ColumnDef) → described (validation_row (trimmed s) table column) c ≡ described (validation_row s table column) c
  described_trimmed table column c = ap (λ (o : Option (List Value)). described o c) (looked_up table column) ∙ described_front (validation_row s table column) c

  row_trimmed : (table : List ℕ) (row : List Value) → column_of_row (trimmed s) table row ≡ column_of_row s table row
  row_trimmed table row = λ i. option_map (λ c. described_trimmed table (text_at 2 row) c i) (column_of_bits (begun_column (text_at 2 row)) (bits_in row))

  columns_trimmed : (table : List ℕ) → columns_of (trimmed s) table ≡ columns_of s table
  columns_trimmed table = λ i. let n = length (column_rows s table) in
      if n == 0 then None else all_present (tabulated n (λ k. option_and_then (λ row. row_trimmed table row i) (numbered_row s table (k + 1))))

  full_trimmed : list_any (lacks_value s) (map front s.validation) ≡ list_any (lacks_value s) s.validation
  full_trimmed = list_any-map (lacks_value s) front s.validation ∙ list_any_same _ (lacks_value s) s.validation (lacks_front s)

  once_trimmed : has_pair (share_key 2) (map front s.validation) ≡ has_pair (share_key 2) s.validation
  once_trimmed = has_pair-map (share_key 2) front s.validation ∙ (λ i. has_pair (λ a b. share_front a b i) s.validation)

  faulty_trimmed : is_faulty (trimmed s) ≡ is_faulty s
  faulty_trimmed = λ i. has_null s.tables || has_null s.columns || full_trimmed i || list_any is_pool_name (listed_names s)
      || has_pair (share_key 1) (counted s.tables) || has_pair (share_key 2) (counted s.columns) || once_trimmed i
      || list_any (λ row. not (list_any (bytes_eq (text_at 0 row)) (listed_names s))) (counted s.columns)

  pub schema_trimmed : schema_of (trimmed s) ≡ schema_of s
  schema_trimmed = λ i. if faulty_trimmed i then None
      else option_map (λ columns. by_name ((tables_name, tables_columns) ∷ (columns_name, columns_columns) ∷ zip (listed_names s) columns)) (all_present (map (λ table. columns_trimmed table i) (listed_names s)))

  kinds_trimmed : HasKinds s → HasKinds (trimmed s)
  kinds_trimmed k = record { columns = k.columns; validation = go s.validation k.validation }
    where
      go : (rows : List (List Value)) → AllByRecursion IsValidationRow rows → AllByRecursion IsValidationRow (map front rows)
      go [] a = tt
      go (row ∷ rows) a = (rw (value_front 0 row (omega arith), value_front 1 row (omega arith)) (a.0), go rows (a.1))

-- the rows of the three tables, but for Description, in another order
pub record IsSameButDescription (s u : SchemaRows) : Type 0 where
  pub tables : IsPermutation s.tables u.tables
  pub columns : IsPermutation s.columns u.columns
  pub validation : IsPermutation (map front s.validation) (map front u.validation)

-- rows in another order describe the same tables
pub schema_reordered : (s u : SchemaRows) (ts : Described) → HasKinds s → IsReordered s u → schema_of s ≡ Some ts → schema_of u ≡ Some ts
schema_reordered s u ts kinds same e = schema_from u ts (describes_reordered_too s u same kinds ts (describes_from s ts e))

-- also with other descriptions
pub schema_undescribed : (s u : SchemaRows) (ts : Described) → HasKinds s → IsSameButDescription s u → schema_of s ≡ Some ts → schema_of u ≡ Some ts
schema_undescribed s u ts kinds same e = sym (schema_trimmed u)
    ∙ schema_reordered (trimmed s) (trimmed u) ts (kinds_trimmed s kinds) (record { tables = same.tables; columns = same.columns; validation = same.validation }) (schema_trimmed s ∙ e)

-- ---- what an update of descriptions sets

names_alike : (columns others : List ColumnDef) → are_alike columns others ≡ true → map (λ c. c.name) columns ≡ map (λ c. c.name) others
names_alike [] [] e = refl
names_alike [] (d ∷ ds) e = cc
names_alike (c ∷ cs) [] e = cc
names_alike (c ∷ cs) (d ∷ ds) e =
    let f = and_parts _ (are_alike cs ds) e in
    let name : bytes_eq c.name d.name ≡ true = (and_parts _ _ ((and_parts _ _ (f.0)).0)).0 in
    λ i. texts_same c.name d.name name i ∷ names_alike cs ds f.1 i

module _ {X Y : Type 0} (p : Y → Bool) (f : X → Y) where
  prefix-map : (xs : List X) → prefix_len (λ x. not (p (f x))) xs ≡ prefix_len (λ y. not (p y)) (map f xs)
  prefix-map [] = refl
  prefix-map (x ∷ xs) = by_test (p (f x)) (λ t. rw t refl) (λ t. rw t (ap (λ n. 1 + n) (prefix-map xs)))

  as_many : (xs : List X) → length xs ≡ length (map f xs)
  as_many [] = refl
  as_many (x ∷ xs) = ap suc (as_many xs)

  position-map : (xs : List X) → position (λ x. p (f x)) xs ≡ position p (map f xs)
  position-map xs = λ i. if nat_lt (prefix-map xs i) (as_many xs i) then Some (prefix-map xs i) else None

description_index : (columns : List ColumnDef) → are_alike columns validation_columns ≡ true → column_index (codes "Description") columns ≡ Some 9
description_index columns e = position-map (λ name. bytes_eq name (codes "Description")) (λ c. c.name) columns
    ∙ ap (position (λ name. bytes_eq name (codes "Description"))) (names_alike columns validation_columns e)

-- an update that may be made of `_Validation` leaves all else
pub row_kept : (columns : List ColumnDef) (sets : List (List ℕ × Value)) (row : List Value) → are_alike columns validation_columns ≡ true
    → list_all (λ s. bytes_eq s.0 (codes "Description")) sets ≡ true → front (values_set columns sets row) ≡ front row
row_kept columns [] row alike all = refl
row_kept columns (s ∷ ss) row alike all =
    let g = and_parts _ _ all in
    let at : index_of columns s ≡ 9 = ap (λ (name : List ℕ). unwrap_or (column_index name columns) 0) (texts_same s.0 (codes "Description") g.0) ∙ ap (λ (o : Option ℕ). unwrap_or o 0) (description_index columns alike) in
    row_kept columns ss (set row (index_of columns s) s.1) alike g.1 ∙ take-set-le 9 row (index_of columns s) s.1 (omega arith)

-- the rows after it
pub rows_kept : (t : TableCells) (q : UpdateQuery) (rows : List (List Value)) → are_alike t.columns validation_columns ≡ true → list_all (λ s. bytes_eq s.0 (codes "Description")) q.sets ≡ true
    → map front (values_after t q rows) ≡ map front rows
rows_kept t q [] alike all = refl
rows_kept t q (row ∷ rows) alike all = by_test (meets t.columns q.condition row)
    (λ y. rw y (λ i. row_kept t.columns q.sets row alike all i ∷ rows_kept t q rows alike all i))
    (λ y. rw y (ap (λ (l : List (List Value)). front row ∷ l) (rows_kept t q rows alike all)))
