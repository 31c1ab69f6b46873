-- What creating a table does, and when it is refused.
use Rattle.std.specs.Prelude.{ℕ, Bool, true, false, not, List, [], ◌∷◌, ◌++◌, length, Option, Some, option_and_then}
use Rattle.std.specs.Prelude.{nat_lt, nat_le, ◌==◌, ◌&&◌, ◌||◌, bytes_eq, Result, Ok}
use Rattle.std.specs.List.{list_any, list_all}
use Rattle.msi_base.specs.declared.errors.ErrorKind.{ErrorKind}
use Rattle.msi_base.specs.declared.errors.ErrorKind.TheVariants.{AlreadyExists, InvalidInput, NotFound}
use Rattle.msi_categories.specs.CategoryRules.{is_identifier}
use Rattle.msi_base.specs.Lists.{has_pair}
use Rattle.msi_base.specs.Refusals.{Refusals, unless_refused, ◌>>=◌}
use Rattle.msi_table_values.specs.declared.value.Value.{Value}
use Rattle.msi_table_values.specs.declared.value.Value.TheVariants.{Str}
use Rattle.msi_table_cells.specs.declared.cell.ValueRef.{ValueRef}
use Rattle.msi_table_values.specs.declared.column.ColumnType.{ColumnType}
use Rattle.msi_table_values.specs.Columns.{ColumnDef}
use Rattle.msi_database_schema.specs.Keys.{is_table_name}
use Rattle.msi_database_schema.specs.System.{tables_name, columns_name, validation_name}
use Rattle.msi_database_changes.specs.Database.{Database, table_at, has_table, with_table}
use Rattle.msi_database_changes.specs.Changes.{Change, no_change, sound_refusal}
use Rattle.msi_database_changes.specs.Insert.{rows_added, rows_inserted}
use Rattle.msi_database_changes.specs.Widening.{widening}
use Rattle.msi_database_schema.specs.Description.{column_rows, validation_rows}
use Rattle.msi_table_values.specs.declared.column.ColumnType.TheVariants as coltype

-- the new table has no rows, and its stream is stored anew, so that one that was left over goes
abbrev pub with_new_table : List ℕ → List ColumnDef → Change → Change
with_new_table name columns c =
    record c {
      database = with_table name (record { columns = columns; rows = Some [] }) c.database;
      stored = c.stored
          ++ name ∷ [];
    }

-- the effect alone, as a new package has it
abbrev pub added_to : List ℕ → List (List Value) → Change → Option Change
added_to name rows c = option_and_then (λ t. rows_added name t rows c) (table_at name c.database)

abbrev pub described_by_rows : List ℕ → List ColumnDef → Change → Option Change
described_by_rows name columns c = option_and_then (added_to validation_name (validation_rows name columns))
    (option_and_then (added_to tables_name ((Str name ∷ []) ∷ [])) (added_to columns_name (column_rows name columns) c))

-- the rows of the system tables with those that describe a new table
pub record SystemRows : Type 0 where
  pub columns : List (List ValueRef)
  pub tables : List (List ValueRef)
  pub validation : List (List ValueRef)

abbrev pub columns_are_named : List ColumnDef → Bool
columns_are_named columns = list_all (λ c. is_identifier c.name) columns
    && not (has_pair (λ c d. bytes_eq c.name d.name) columns)

abbrev pub is_too_long : ColumnType → Bool
is_too_long (coltype.Str n) = nat_lt 255 n
is_too_long _ = false

abbrev pub is_binary : ColumnType → Bool
is_binary coltype.Binary = true
is_binary _ = false

abbrev pub column_refusals : List ColumnDef → Refusals
column_refusals columns = (not (nat_le 1 (length columns) && nat_le (length columns) 32), InvalidInput)
    ∷ (not (list_any (λ c. c.is_primary_key) columns), InvalidInput)
    ∷ (not (columns_are_named columns), InvalidInput)
    ∷ (list_any (λ c. is_too_long c.coltype) columns, InvalidInput)
    ∷ (list_any (λ c. is_binary c.coltype && (c.is_primary_key || c.is_localizable)) columns, InvalidInput)
    ∷ (list_any (λ c. list_any (list_any (λ b. b == 59)) c.enum_values) columns, InvalidInput) ∷ []

-- why no table is made of a name and columns
abbrev pub new_table_refusals : List ℕ → List ColumnDef → Refusals
new_table_refusals name columns = (not (is_table_name name), InvalidInput) ∷ column_refusals columns

abbrev pub table_refusals : Database → List ℕ → List ColumnDef → Refusals
table_refusals d name columns = new_table_refusals name columns
    ++ (has_table name d, AlreadyExists) ∷ (not (has_table validation_name d), NotFound) ∷ []

-- a table created with references as wide as they are, and so that they widen where they have to
abbrev pub create_at_width : Database → List ℕ → List ColumnDef → Result Change ErrorKind
create_at_width d name columns = unless_refused (sound_refusal d ++ table_refusals d name columns) (no_change d) >>=
    rows_inserted columns_name (column_rows name columns) >>= rows_inserted tables_name
    ((Str name ∷ []) ∷ []) >>= rows_inserted validation_name (validation_rows name columns) >>=
    λ c. Ok (with_new_table name columns c)

abbrev pub create_table : Database → List ℕ → List ColumnDef → Result Change ErrorKind
create_table d name columns = widening (λ d. create_at_width d name columns) d
