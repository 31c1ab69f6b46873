-- The orders in which rows of the system tables are looked up: each by two parts of a row.
use Rattle.std.specs.Prelude.{ℕ, ℤ, Bool, not, ◌&&◌, ◌||◌, List, [], bytes_eq}
use Rattle.std.specs.List.{list_any}
use Rattle.std.specs.Ordering.{int_cmp, ordering_then}
use Rattle.std.specs.declared.cmp.Ordering.{Ordering}
use Rattle.msi_base.specs.Lists.{has_pair, list_cmp}
use Rattle.msi_table_values.specs.declared.value.Value.{Value}
use Rattle.msi_table_values.specs.Values.{value_cmp}
use Rattle.msi_database_schema.specs.Keys.{is_pool_name}
use Rattle.msi_database_schema.specs.System.{is_schema_table}
use Rattle.msi_database_schema.specs.Schema.{SchemaRows, counted, has_null, lacks_value, listed_names, number_of}
use Rattle.msi_database_schema.specs.Schema.{share_key, text_at, value_at}

-- the first part that differs decides
abbrev pub pair_cmp : {A B : Type 0} → (A → A → Ordering) → (B → B → Ordering) → A × B → A × B → Ordering
pair_cmp first second p q = ordering_then (first p.0 q.0) (second p.1 q.1)

-- a row's table with a text of another column, or with the number of a column; and its first value with another
abbrev pub texts_at : ℕ → List Value → List ℕ × List ℕ
texts_at place row = (text_at 0 row, text_at place row)

abbrev pub number_in : List Value → List ℕ × ℤ
number_in row = (text_at 0 row, number_of (value_at 1 row))

abbrev pub values_at : ℕ → List Value → Value × Value
values_at place row = (value_at 0 row, value_at place row)

abbrev pub texts_cmp : List ℕ × List ℕ → List ℕ × List ℕ → Ordering
texts_cmp = pair_cmp list_cmp list_cmp

abbrev pub numbers_cmp : List ℕ × ℤ → List ℕ × ℤ → Ordering
numbers_cmp = pair_cmp list_cmp int_cmp

abbrev pub values_cmp : Value × Value → Value × Value → Ordering
values_cmp = pair_cmp value_cmp value_cmp

abbrev pub by_texts : ℕ → List Value → List Value → Ordering
by_texts place row other = texts_cmp (texts_at place row) (texts_at place other)

abbrev pub by_numbers : List Value → List Value → Ordering
by_numbers row other = numbers_cmp (number_in row) (number_in other)

abbrev pub by_values : ℕ → List Value → List Value → Ordering
by_values place row other = values_cmp (values_at place row) (values_at place other)

-- the rows of the three tables, and where some of them don't matter
abbrev pub rows_of : List (List Value) → List (List Value) → List (List Value) → SchemaRows
rows_of tables columns validation = record { tables = tables; columns = columns; validation = validation }

abbrev pub describing : List (List Value) → List (List Value) → SchemaRows
describing columns validation = rows_of [] columns validation

abbrev pub listing : List (List Value) → List (List Value) → SchemaRows
listing tables columns = rows_of tables columns []

-- what breaks a rule, in two parts: single rows, and rows that share a key
abbrev pub has_faulty_row : SchemaRows → Bool
has_faulty_row s = has_null s.tables || has_null s.columns || list_any (lacks_value s) s.validation
    || list_any (λ row. not (is_schema_table (text_at 0 row)) && is_pool_name (text_at 0 row)) s.tables
    || list_any (λ row. not (is_schema_table (text_at 0 row))
    && not (list_any (bytes_eq (text_at 0 row)) (listed_names s))) s.columns

abbrev pub shares_key : SchemaRows → Bool
shares_key s = has_pair (share_key 1) (counted s.tables)
    || has_pair (share_key 2) (counted s.columns) || has_pair (share_key 2) s.validation
