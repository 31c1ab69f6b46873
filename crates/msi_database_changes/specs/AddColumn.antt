-- What adding a column to a table does, and when it is refused.
use Rattle.std.specs.Prelude.{ℕ, ◌+◌, not, List, [], ◌∷◌, ◌++◌, map, length, option_map, ◌||◌, Result, Ok}
use Rattle.msi_base.specs.declared.errors.ErrorKind.{ErrorKind}
use Rattle.msi_base.specs.declared.errors.ErrorKind.TheVariants.{InvalidInput, NotFound}
use Rattle.msi_base.specs.Refusals.{Refusals, or_refused, unless_refused, ◌>>=◌}
use Rattle.msi_table_values.specs.declared.value.Value.TheVariants.{Null}
use Rattle.msi_table_cells.specs.declared.cell.ValueRef.{ValueRef}
use Rattle.msi_table_cells.specs.declared.cell.ValueRef.TheVariants as cell
use Rattle.msi_table_cells.specs.TableCells.{TableCells}
use Rattle.msi_table_values.specs.Columns.{ColumnDef}
use Rattle.msi_table_values.specs.ValidValues.{is_valid_value}
use Rattle.msi_database_schema.specs.Description.{column_row, validation_row}
use Rattle.msi_database_schema.specs.System.{columns_name, validation_name}
use Rattle.msi_database_changes.specs.Database.{Database, has_table, table_at, with_table}
use Rattle.msi_database_changes.specs.Changes.{Change, missing_or, no_change}
use Rattle.msi_database_changes.specs.Create.{column_refusals}
use Rattle.msi_database_changes.specs.Drop.{drop_refusals}
use Rattle.msi_database_changes.specs.Insert.{rows_inserted}
use Rattle.msi_database_changes.specs.Widening.{widening}

-- each row with null at its end
abbrev pub with_nulls : List (List ValueRef) → List (List ValueRef)
with_nulls rows = map (λ row. row ++ cell.Null ∷ []) rows

-- a table with one more column, in which each row has null
abbrev pub with_column : ColumnDef → TableCells → TableCells
with_column column t = record { columns = t.columns ++ column ∷ []; rows = option_map with_nulls t.rows }

-- the rows of a table with a new column, and those of the system tables with the rows that describe it
pub record ColumnRows : Type 0 where
  pub columns : List (List ValueRef)
  pub validation : List (List ValueRef)
  pub own : List (List ValueRef)

-- the table's stream is stored anew, with the rows in the order that they have
abbrev pub with_new_column : List ℕ → ColumnDef → TableCells → Change → Change
with_new_column name column t c =
    record c { database = with_table name (with_column column t) c.database; stored = c.stored ++ name ∷ [] }

-- why a table of these columns gets no such column: rows begin with null in it, and together they may be none of a new
-- table
abbrev pub new_column_refusals : List ColumnDef → ColumnDef → Refusals
new_column_refusals columns column = (column.is_primary_key || not (is_valid_value column Null), InvalidInput)
    ∷ column_refusals (column ∷ columns)

-- what refuses it before rows are looked at: telling it takes no memory
abbrev pub early_column_refusals : Database → List ℕ → ColumnDef → Refusals
early_column_refusals d name column = drop_refusals d name ++ missing_or (table_at name d)
    (λ t. new_column_refusals t.columns column ++ (not (has_table validation_name d), NotFound) ∷ [])

-- the rows that describe the column are inserted, and its number is the next one
abbrev pub column_inserted : List ℕ → ColumnDef → TableCells → Change → Result Change ErrorKind
column_inserted name column t c = rows_inserted columns_name (column_row name (length t.columns + 1, column) ∷ []) c
    >>= rows_inserted validation_name (validation_row name column ∷ [])
    >>= λ c. Ok (with_new_column name column t c)

-- a column added with references as wide as they are, and so that they widen where they have to
abbrev pub add_column_at_width : Database → List ℕ → ColumnDef → Result Change ErrorKind
add_column_at_width d name column = unless_refused (early_column_refusals d name column) (no_change d) >>=
    λ c. or_refused NotFound (table_at name d) >>= λ t. column_inserted name column t c

abbrev pub add_column : Database → List ℕ → ColumnDef → Result Change ErrorKind
add_column d name column = widening (λ d. add_column_at_width d name column) d
