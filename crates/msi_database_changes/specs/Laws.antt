-- What follows for users, in the words of the database: statements that public contracts name.
use Rattle.std.specs.Prelude.{◌≡◌, ℕ, true, false, not, if◌then◌else◌, List, [], ◌∷◌, ◌++◌, map, filter, Some}
use Rattle.std.specs.Prelude.{option_and_then, unwrap_or, slice_get, IsSomeAnd, IsPermutation, bytes_eq, Ok, count_by}
use Rattle.std.specs.FinMap.{put}
use Rattle.std.specs.List.Sorted.{IsSortedByKey}
use Rattle.std.specs.Ordering.{eq_by_cmp}
use Rattle.std.specs.List.{sum_by, AllByRecursion}
use Rattle.msi_pool.specs.FirstFitLaws.{text_at}
use Rattle.msi_base.specs.Lists.{has_pair, list_cmp}
use Rattle.msi_table_values.specs.declared.value.Value.{Value}
use Rattle.msi_table_values.specs.declared.value.Value.TheVariants.{Null}
use Rattle.msi_table_values.specs.Columns.{ColumnDef, types_of, is_of_category_binary}
use Rattle.msi_table_cells.specs.Fitting.{FitsRow, FitsTable}
use Rattle.msi_table_cells.specs.SortedRows.{HoldsNumbers}
use Rattle.msi_table_cells.specs.CellValues.{row_values}
use Rattle.msi_table_values.specs.Values.{value_cmp}
use Rattle.msi_database_schema.specs.Schema.{SchemaRows, schema_of}
use Rattle.msi_database_schema.specs.System.{columns_name, tables_name, validation_columns, validation_name}
use Rattle.msi_query.specs.Queries.{InsertQuery, UpdateQuery, DeleteQuery}
use Rattle.msi_query_expressions.specs.Conditions.{meets}
use Rattle.msi_table_cells.specs.KeyOrder.{key_of, same_key}
use Rattle.msi_database_changes.specs.Database.{Database, CountsAreExact, values_of, is_sound, is_well_formed, table_at}
use Rattle.msi_database_changes.specs.Database.{has_table, named_numbers, columns_by_name}
use Rattle.msi_table_cells.specs.TableCells.{TableCells}
use Rattle.msi_database_changes.specs.Changes.{Change}
use Rattle.msi_database_changes.specs.Insert.{insert_rows, whole_insert}
use Rattle.msi_database_changes.specs.Update.{update_rows, values_after}
use Rattle.msi_database_changes.specs.Delete.{delete_rows}
use Rattle.msi_database_changes.specs.Create.{create_table}
use Rattle.msi_database_changes.specs.Drop.{drop_table}
use Rattle.msi_database_changes.specs.AddColumn.{add_column}

-- the rows of a table, as values
abbrev pub rows_at : List ℕ → Database → List (List Value)
rows_at name d = unwrap_or (option_and_then (λ t. t.rows) (values_of d name)) []

-- every other table has the same rows
abbrev pub OthersStay : List ℕ → Database → Database → Type 0
OthersStay name old new = (other : List ℕ) → bytes_eq name other ≡ false → values_of new other ≡ values_of old other

-- an accepted insert adds exactly its rows, each with a value for each column
abbrev pub InsertAddsItsRows : Type 0
InsertAddsItsRows = (d : Database) (q : InsertQuery) (c : Change) → is_well_formed d ≡ true → insert_rows d q ≡ Ok c
    → IsPermutation (rows_at q.table d ++ (whole_insert d q).rows) (rows_at q.table c.database)
    × OthersStay q.table d c.database

-- an accepted update sets its columns in exactly the rows whose condition counts as true
abbrev pub UpdateSetsItsRows : Type 0
UpdateSetsItsRows = (d : Database) (q : UpdateQuery) (c : Change) (t : TableCells)
    → is_well_formed d ≡ true → table_at q.table d ≡ Some t → update_rows d q ≡ Ok c
    → IsPermutation (values_after t q (rows_at q.table d)) (rows_at q.table c.database)
    × OthersStay q.table d c.database

-- an accepted delete removes exactly the rows whose condition counts as true
abbrev pub DeleteRemovesItsRows : Type 0
DeleteRemovesItsRows = (d : Database) (q : DeleteQuery) (c : Change) (t : TableCells)
    → is_well_formed d ≡ true → table_at q.table d ≡ Some t → delete_rows d q ≡ Ok c
    → IsPermutation (filter (λ row. not (meets t.columns q.condition row)) (rows_at q.table d))
    (rows_at q.table c.database) × OthersStay q.table d c.database

-- no two rows of a table share a key
abbrev pub KeysAreDistinct : Database → Type 0
KeysAreDistinct d = (name : List ℕ) (t : TableCells) → table_at name d ≡ Some t
    → has_pair same_key (map (key_of t.columns) (rows_at name d)) ≡ false

-- the rows of a table fit its columns
abbrev pub TableFits : Database → TableCells → Type 0
TableFits d t = IsSomeAnd t.rows (FitsTable d.pool.long (types_of t.columns))

-- the rows of each table fit its columns, and those of a `_Validation` that is no table the standard ones
pub record RowsFit (d : Database) : Type 0 where
  pub tables : (name : List ℕ) (t : TableCells) → table_at name d ≡ Some t → TableFits d t
  pub unlisted : AllByRecursion (FitsRow d.pool.long (types_of validation_columns)) d.unlisted_validation

-- What an accepted change of rows makes of a database, and what one of tables does
pub data IsChange (d : Database) (c : Change) : Type 0 where
  inserted : (q : InsertQuery) → insert_rows d q ≡ Ok c → IsChange d c
  updated : (q : UpdateQuery) → update_rows d q ≡ Ok c → IsChange d c
  deleted : (q : DeleteQuery) → delete_rows d q ≡ Ok c → IsChange d c

pub data IsTableChange (d : Database) (c : Change) : Type 0 where
  created : (name : List ℕ) (columns : List ColumnDef) → create_table d name columns ≡ Ok c → IsTableChange d c
  dropped : (name : List ℕ) → drop_table d name ≡ Ok c → IsTableChange d c
  column_added : (name : List ℕ) (column : ColumnDef) → add_column d name column ≡ Ok c → IsTableChange d c

-- a database stays well formed and sound; rows that fit still do, exact counts stay exact, and distinct keys distinct
pub record Keeps (old new : Database) : Type 0 where
  pub formed : is_well_formed new ≡ true
  pub sound : is_sound new ≡ true
  pub fits : RowsFit old → RowsFit new
  pub counts : CountsAreExact old → CountsAreExact new
  pub keys : KeysAreDistinct old → KeysAreDistinct new

abbrev pub ChangesKeep : Type 0
ChangesKeep = (d : Database) (c : Change) → IsChange d c
    → is_well_formed d ≡ true → is_sound d ≡ true → Keeps d c.database

abbrev pub TableChangesKeep : Type 0
TableChangesKeep = (d : Database) (c : Change) → IsTableChange d c
    → is_well_formed d ≡ true → is_sound d ≡ true → Keeps d c.database

-- the number of cells that hold a text is the sum of the counts of the places that hold it
abbrev pub CountsOfText : Database → List ℕ → Type 0
CountsOfText d text = sum_by (λ place. if bytes_eq place.text text then place.count else 0) d.pool.places
    ≡ count_by (λ number. bytes_eq (text_at d.pool.places number) text) (named_numbers d)

abbrev pub CountsTellTexts : Type 0
CountsTellTexts = (d : Database) (text : List ℕ) → is_well_formed d ≡ true
    → is_sound d ≡ true → CountsAreExact d → CountsOfText d text

-- the first values of the table that a change stores ascend, where they are numbers and their column isn't of category
-- Binary
abbrev pub LeadingNumbersAscendIn : Change → Type 0
LeadingNumbersAscendIn c = (name : List ℕ) (t : TableCells) (first : ColumnDef) (others : List ColumnDef)
    → c.stored ≡ name ∷ []
    → table_at name c.database ≡ Some t → t.columns ≡ first ∷ others
    → HoldsNumbers first.coltype → is_of_category_binary first.category ≡ false
    → IsSortedByKey (λ row. unwrap_or (slice_get row 0) Null) value_cmp (rows_at name c.database)

abbrev pub LeadingNumbersAscend : Type 0
LeadingNumbersAscend = (d : Database) (c : Change) → IsChange d c
    → is_well_formed d ≡ true → is_sound d ≡ true → RowsFit d
    → LeadingNumbersAscendIn c

-- the rows that describe tables; those of a `_Validation` that is no table are in its stream
abbrev pub describing : Database → SchemaRows
describing d = record {
  tables = rows_at tables_name d;
  columns = rows_at columns_name d;
  validation = if has_table validation_name d then rows_at validation_name d
      else map (row_values d.pool.places) d.unlisted_validation;
}

-- the rows describe the tables that there are
abbrev pub TablesAreDescribed : Database → Type 0
TablesAreDescribed d = schema_of (describing d) ≡ Some (columns_by_name d)

-- the rows of a new table give its columns back, beside the other tables
abbrev pub CreatedTablesAreDescribed : Type 0
CreatedTablesAreDescribed = (d : Database) (name : List ℕ) (columns : List ColumnDef) (c : Change)
    → is_well_formed d ≡ true → RowsFit d → TablesAreDescribed d → create_table d name columns ≡ Ok c
    → schema_of (describing c.database) ≡ Some (put list_cmp name columns (columns_by_name d))

-- after a table was dropped the rows describe the others
abbrev pub DroppedTablesAreForgotten : Type 0
DroppedTablesAreForgotten = (d : Database) (name : List ℕ) (c : Change)
    → is_well_formed d ≡ true → RowsFit d → TablesAreDescribed d → drop_table d name ≡ Ok c
    → schema_of (describing c.database) ≡ Some (filter (λ t. not (eq_by_cmp list_cmp name t.0)) (columns_by_name d))

-- the rows that describe a table describe it with the column that was added, beside the other tables
abbrev pub AddedColumnsAreDescribed : Type 0
AddedColumnsAreDescribed = (d : Database) (name : List ℕ) (column : ColumnDef) (t : TableCells) (c : Change)
    → is_well_formed d ≡ true → RowsFit d → TablesAreDescribed d → table_at name d ≡ Some t
    → add_column d name column ≡ Ok c
    → schema_of (describing c.database) ≡ Some (put list_cmp name (t.columns ++ column ∷ []) (columns_by_name d))

-- an added column has null in each row of its table, and the tables that neither have it nor describe it have the same
-- rows
abbrev pub AddedColumnsAreNull : Type 0
AddedColumnsAreNull = (d : Database) (name : List ℕ) (column : ColumnDef) (c : Change)
    → is_well_formed d ≡ true → add_column d name column ≡ Ok c
    → (rows_at name c.database ≡ map (λ row. row ++ Null ∷ []) (rows_at name d))
    × ((other : List ℕ) → bytes_eq name other ≡ false → bytes_eq columns_name other ≡ false
    → bytes_eq validation_name other ≡ false → values_of c.database other ≡ values_of d other)
