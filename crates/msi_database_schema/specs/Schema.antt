-- Which tables the rows of `_Tables`, `_Columns` and `_Validation` describe (MSI SDK, "System tables").
use Rattle.std.specs.Prelude.{if◌then◌else◌, ℕ, ◌+◌, Bool, not, List, [], ◌∷◌, map, length, filter, Option, Some, None}
use Rattle.std.specs.Prelude.{option_map, option_and_then, unwrap_or, find, ◌==◌, ◌&&◌, ◌||◌, bytes_eq, codes}
use Rattle.std.specs.Prelude.{slice_get, ℤ, pos, negsuc, nat_le, zip}
use Rattle.std.specs.List.{list_any, list_all, slice_split}
use Rattle.std.specs.Ordering.{is_eq, int_cmp, eq_by_cmp}
use Rattle.std.specs.FinMap.{put}
use Rattle.std.specs.Int.{w16, cast_unsigned}
use Rattle.msi_categories.specs.declared.category.Category.{Category}
use Rattle.msi_categories.specs.Categories.{category_name, all_categories}
use Rattle.msi_base.specs.Lists.{all_present, tabulated, has_pair, list_cmp}
use Rattle.msi_table_values.specs.declared.value.Value.{Value}
use Rattle.msi_table_values.specs.declared.value.Value.TheVariants.{Null, Int, Str}
use Rattle.msi_table_values.specs.Values.{is_null, is_text, value_cmp}
use Rattle.msi_table_values.specs.Columns.{ColumnDef, begun_column, column_of_bits, greatest_16}
use Rattle.msi_table.specs.Tables.{TableDef}
use Rattle.msi_database_schema.specs.Keys.{is_pool_name}
use Rattle.msi_database_schema.specs.System.{tables_name, columns_name, is_schema_table, tables_columns}
use Rattle.msi_database_schema.specs.System.{columns_columns}
use Rattle.msi_categories.specs.declared.category.Category.TheVariants as category

-- a row's value at a place, as a text and as a number
abbrev pub value_at : ℕ → List Value → Value
value_at j row = unwrap_or (slice_get row j) Null

abbrev pub text_of : Value → List ℕ
text_of (Str t) = t
text_of _ = []

abbrev pub number_of : Value → ℤ
number_of (Int n) = n
number_of _ = pos 0

abbrev pub text_at : ℕ → List Value → List ℕ
text_at j row = text_of (value_at j row)

abbrev pub is_about : List ℕ → List Value → Bool
is_about table row = bytes_eq (text_at 0 row) table

-- two rows with one key of the first n values
abbrev pub share_key : ℕ → List Value → List Value → Bool
share_key n row other = list_all (λ same. same)
    (tabulated n (λ j. eq_by_cmp value_cmp (value_at j row) (value_at j other)))

-- rows about `_Tables` and `_Columns` are ignored
abbrev pub counted : List (List Value) → List (List Value)
counted rows = filter (λ row. not (is_schema_table (text_at 0 row))) rows

-- the rows of the three tables
pub record SchemaRows : Type 0 where
  pub tables : List (List Value)
  pub columns : List (List Value)
  pub validation : List (List Value)

abbrev pub listed_names : SchemaRows → List (List ℕ)
listed_names s = map (text_at 0) (counted s.tables)

abbrev pub column_rows : SchemaRows → List ℕ → List (List Value)
column_rows s table = filter (is_about table) (counted s.columns)

-- the row of `_Columns` with a number, and the row of `_Validation` about a column
abbrev pub has_number : ℕ → List Value → Bool
has_number number row = is_eq (int_cmp (number_of (value_at 1 row)) (pos number))

abbrev pub numbered_row : SchemaRows → List ℕ → ℕ → Option (List Value)
numbered_row s table number = find (has_number number) (column_rows s table)

abbrev pub validation_row : SchemaRows → List ℕ → List ℕ → Option (List Value)
validation_row s table column = find (λ row. is_about table row && bytes_eq (text_at 1 row) column) s.validation

-- the parts of a column that a row of `_Validation` gives
abbrev pub both_set : {X Y : Type 0} → (Value → X) → (Value → Y) → Value → Value → Option (X × Y)
both_set f g v w = if is_null v || is_null w then None else Some (f v, g w)

abbrev pub category_named : List ℕ → Option Category
category_named text = if bytes_eq text (codes "FormattedSddlText") then Some category.FormattedSddlText
    else if bytes_eq text (codes "Guid") then Some category.Guid
    else find (λ c. bytes_eq (category_name c) text) all_categories

abbrev pub values_in : Value → List (List ℕ)
values_in (Str set) = slice_split (λ c. c == 59) set
values_in _ = []

abbrev pub described : Option (List Value) → ColumnDef → ColumnDef
described None c = c
described (Some row) c = record c {
  is_nullable = c.is_nullable || bytes_eq (text_at 2 row) (codes "Y");
  value_range = both_set number_of number_of (value_at 3 row) (value_at 4 row);
  foreign_key = both_set text_of number_of (value_at 5 row) (value_at 6 row);
  category = category_named (text_at 7 row);
  enum_values = values_in (value_at 8 row);
}

abbrev pub bits_in : List Value → ℕ
bits_in row = cast_unsigned w16 (number_of (value_at 3 row))

abbrev pub column_of_row : SchemaRows → List ℕ → List Value → Option ColumnDef
column_of_row s table row = option_map (described (validation_row s table (text_at 2 row)))
    (column_of_bits (begun_column (text_at 2 row)) (bits_in row))

-- the columns of a listed table: its rows have the numbers 1 to n, with n at least 1
abbrev pub columns_of : SchemaRows → List ℕ → Option (List ColumnDef)
columns_of s table = let n = length (column_rows s table) in
    if n == 0 then None
    else all_present (tabulated n (λ i. option_and_then (column_of_row s table) (numbered_row s table (i + 1))))

-- what breaks a rule
abbrev pub describes_column : SchemaRows → List Value → Bool
describes_column s row = list_any (λ c. bytes_eq (text_at 2 c) (text_at 1 row)) (column_rows s (text_at 0 row))

abbrev pub lacks_value : SchemaRows → List Value → Bool
lacks_value s row = is_null (value_at 0 row) || is_null (value_at 1 row)
    || (describes_column s row && is_null (value_at 2 row))

abbrev pub has_null : List (List Value) → Bool
has_null rows = list_any (list_any is_null) rows

abbrev pub is_faulty : SchemaRows → Bool
is_faulty s = has_null s.tables || has_null s.columns || list_any (lacks_value s) s.validation
    || list_any is_pool_name (listed_names s)
    || has_pair (share_key 1) (counted s.tables)
    || has_pair (share_key 2) (counted s.columns) || has_pair (share_key 2) s.validation
    || list_any (λ row. not (list_any (bytes_eq (text_at 0 row)) (listed_names s))) (counted s.columns)

abbrev pub by_name : List (List ℕ × List ColumnDef) → List (List ℕ × List ColumnDef)
by_name [] = []
by_name (t ∷ ts) = put list_cmp t.0 t.1 (by_name ts)

-- the tables by name, with the two that are always there; nothing where a rule is broken
abbrev pub schema_of : SchemaRows → Option (List (List ℕ × List ColumnDef))
schema_of s = if is_faulty s then None
    else option_map (λ columns. by_name
    ((tables_name, tables_columns) ∷ (columns_name, columns_columns) ∷ zip (listed_names s) columns))
    (all_present (map (columns_of s) (listed_names s)))

-- what the cells of the system tables' columns give: numbers of 16 bits, and texts
abbrev pub is_of_16_bits : ℤ → Bool
is_of_16_bits (pos n) = nat_le n greatest_16
is_of_16_bits (negsuc n) = nat_le n greatest_16

-- a column's number, or the bits of its type
abbrev pub has_long_number : List (List Value) → Bool
has_long_number rows = list_any
    (λ row. not (is_of_16_bits (number_of (value_at 1 row)) && is_of_16_bits (number_of (value_at 3 row)))) rows

-- a table's name that is none
abbrev pub has_odd_name : List (List Value) → Bool
has_odd_name rows = list_any (λ row. not (is_text (value_at 0 row))) rows

abbrev pub table_with : Bool → List ℕ × List ColumnDef → TableDef
table_with long t = record { name = t.0; columns = t.1; long = long }

-- the tables as such, in the order of their names; nothing for rows that no cells of the system tables give, either
abbrev pub tables_of : Bool → SchemaRows → Option (List TableDef)
tables_of long s = if has_odd_name s.tables
    || has_long_number s.columns then None else option_map (map (table_with long)) (schema_of s)
