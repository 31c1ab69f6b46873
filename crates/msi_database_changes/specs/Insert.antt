-- What inserting rows does, and when it is refused.
use Rattle.std.specs.Prelude.{ℕ, ◌+◌, Bool, not, List, [], ◌∷◌, ◌++◌, map, length, Option, Some, option_map, nat_lt}
use Rattle.std.specs.Prelude.{◌==◌, ◌&&◌, zip, Result, bytes_eq, if◌then◌else◌, option_and_then, position, slice_get}
use Rattle.std.specs.Prelude.{unwrap_or}
use Rattle.std.specs.List.{list_all}
use Rattle.msi_base.specs.declared.errors.ErrorKind.{ErrorKind}
use Rattle.msi_base.specs.declared.errors.ErrorKind.TheVariants.{InvalidData, InvalidInput}
use Rattle.msi_base.specs.declared.errors.ErrorKind.TheVariants.{NotFound}
use Rattle.msi_base.specs.Lists.{has_pair}
use Rattle.msi_pool.specs.Pool.{Place}
use Rattle.msi_base.specs.Refusals.{Refusals, unless_refused, or_refused, ◌>>=◌}
use Rattle.msi_table_values.specs.declared.value.Value.{Value}
use Rattle.msi_table_values.specs.declared.value.Value.TheVariants.{Null}
use Rattle.msi_table_cells.specs.declared.cell.ValueRef.{ValueRef}
use Rattle.msi_table_values.specs.Columns.{ColumnDef}
use Rattle.msi_table_values.specs.ValidValues.{is_valid_value}
use Rattle.msi_table_cells.specs.KeyOrder.{key_of, same_key, in_key_order}
use Rattle.msi_query.specs.Queries.{InsertQuery}
use Rattle.msi_query.specs.Selection.{has_columns}
use Rattle.msi_database_schema.specs.System.{is_system_table}
use Rattle.msi_database_changes.specs.Database.{Database, table_at, rows_of}
use Rattle.msi_table_cells.specs.TableCells.{TableCells}
use Rattle.msi_database_changes.specs.KeySets.{key_refusals, keys_of_rows}
use Rattle.msi_database_changes.specs.Changes.{Change, no_change, pool_of, with_stored}
use Rattle.msi_database_changes.specs.Texts.{PoolInUse, rows_put}
use Rattle.msi_database_changes.specs.Changes.{barred_refusals, missing_or}
use Rattle.msi_database_changes.specs.Widening.{widening}

abbrev pub keys_of : List Place → TableCells → List (List Value)
keys_of places t = keys_of_rows places t.columns (rows_of t)

-- the value beside the name of a column; Null for a column that isn't named
abbrev pub value_beside : List (List ℕ) → List Value → List ℕ → Value
value_beside names row name =
    unwrap_or (option_and_then (slice_get row) (position (λ n. bytes_eq n name) names)) Null

-- a value for each column, from the values of those that are named
abbrev pub whole_row : List ColumnDef → List (List ℕ) → List Value → List Value
whole_row columns names row = map (λ c. value_beside names row c.name) columns

-- where no column is named, the values are of all columns in their order
abbrev pub whole_rows : List ColumnDef → List (List ℕ) → List (List Value) → List (List Value)
whole_rows columns names rows = if length names == 0 then rows else map (whole_row columns names) rows

-- that a named column isn't there, or that one is named twice
abbrev pub name_refusals : List ColumnDef → List (List ℕ) → Refusals
name_refusals columns names =
    (not (has_columns columns names), InvalidInput) ∷ (has_pair bytes_eq names, InvalidInput) ∷ []

-- that a row has more or fewer values than there are names
abbrev pub count_refusals : List (List ℕ) → List (List Value) → Refusals
count_refusals names rows = map (λ row. (not (length row == length names), InvalidInput)) rows

abbrev pub naming_refusals : List ColumnDef → List (List ℕ) → List (List Value) → Refusals
naming_refusals columns names rows =
    if length names == 0 then [] else name_refusals columns names ++ count_refusals names rows

-- Insert, from its row checks on
abbrev pub row_fits : List ColumnDef → List Value → Bool
row_fits columns row = (length row == length columns) && list_all (λ e. is_valid_value e.0 e.1) (zip columns row)

-- that a row doesn't fit the columns
abbrev pub misfit_refusals : List ColumnDef → List (List Value) → Refusals
misfit_refusals columns rows = map (λ row. (not (row_fits columns row), InvalidInput)) rows

-- what refuses new rows whatever the table has
abbrev pub new_row_refusals : List ColumnDef → List (List ℕ) → List (List Value) → Refusals
new_row_refusals columns names rows =
    naming_refusals columns names rows ++ misfit_refusals columns (whole_rows columns names rows)

abbrev pub row_refusals : List Place → TableCells → List (List Value) → Refusals
row_refusals places t rows = misfit_refusals t.columns rows
    ++ (has_pair same_key (keys_of places t), InvalidData)
    ∷ key_refusals (keys_of places t) [] (map (key_of t.columns) rows)
    ++ (nat_lt 65536 (length (rows_of t) + length rows), InvalidInput) ∷ []

-- a table of these columns and rows
abbrev pub table_with : List ColumnDef → List (List ValueRef) → TableCells
table_with columns rows = record { columns = columns; rows = Some rows }

-- all rows of a table with the new ones, ordered by their keys, and the pool after their texts were taken
abbrev pub cells_added : Bool → List ColumnDef → PoolInUse → List (List ValueRef)
    → List (List Value) → Option (List (List ValueRef) × PoolInUse)
cells_added long columns pool rows new = option_map
    (λ r. (in_key_order columns r.1.places (rows ++ r.0), r.1)) (rows_put long pool new)

-- the rows' texts are taken row by row and cell by cell; then all rows are ordered by their keys, and stored
abbrev pub rows_added : List ℕ → TableCells → List (List Value) → Change → Option Change
rows_added name t rows c = option_map
    (λ r. with_stored name t.columns (in_key_order t.columns r.1.places (rows_of t ++ r.0)) r.1 c)
    (rows_put c.database.pool.long (pool_of c) rows)

abbrev pub rows_inserted : List ℕ → List (List Value) → Change → Result Change ErrorKind
rows_inserted name rows c =
    or_refused NotFound (table_at name c.database) >>=
    λ t. unless_refused (row_refusals c.database.pool.places t rows) t >>=
    λ t. or_refused InvalidInput (rows_added name t rows c)

-- what refuses an insert before the table's rows are looked at: telling it takes no memory
abbrev pub early_insert_refusals : Database → InsertQuery → Refusals
early_insert_refusals d q = barred_refusals d (is_system_table q.table)
    ++ missing_or (table_at q.table d) (λ t. new_row_refusals t.columns q.columns q.rows)

-- an insert of whole rows, with references as wide as they are, and one that widens them where it has to
abbrev pub insert_at_width : Database → InsertQuery → Result Change ErrorKind
insert_at_width d q = unless_refused (barred_refusals d (is_system_table q.table)) (no_change d)
    >>= rows_inserted q.table q.rows

abbrev pub insert_whole : Database → InsertQuery → Result Change ErrorKind
insert_whole d q = widening (λ d. insert_at_width d q) d

-- the columns of a table; none where there is no such table
abbrev pub columns_at : List ℕ → Database → List ColumnDef
columns_at name d = unwrap_or (option_map (λ t. t.columns) (table_at name d)) []

-- the insert of whole rows that an insert stands for
abbrev pub whole_insert : Database → InsertQuery → InsertQuery
whole_insert d q =
    record { table = q.table; columns = []; rows = whole_rows (columns_at q.table d) q.columns q.rows }

abbrev pub insert_rows : Database → InsertQuery → Result Change ErrorKind
insert_rows d q = unless_refused (early_insert_refusals d q) (whole_insert d q) >>= insert_whole d
