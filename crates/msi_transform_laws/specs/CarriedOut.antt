-- Records carried out on rows of values, and what the records of a transform that is made give there: the rows of the
-- new package.
use Rattle.std.specs.Prelude.{◌≡◌, ℕ, ◌-◌, Bool, true, false, not, List, [], ◌∷◌, ◌++◌, filter, zip, length}
use Rattle.std.specs.Prelude.{map, take, drop, replicate, set, None, is_some, if◌then◌else◌, ◌&&◌, T}
use Rattle.std.specs.FinMap.{find, put, is_sorted}
use Rattle.std.specs.List.{AllByRecursion, fold, list_any}
use Rattle.std.specs.Option.{option_map_or}
use Rattle.std.specs.Ordering.{eq_by_cmp}
use Rattle.msi_table_cells.specs.declared.cell.ValueRef.{ValueRef}
use Rattle.msi_table_cells.specs.KeyOrder.{key_of}
use Rattle.msi_table_values.specs.declared.value.Value.{Value}
use Rattle.msi_table_values.specs.declared.value.Value.TheVariants.{Null, Str}
use Rattle.msi_table_values.specs.Columns.{ColumnDef}
use Rattle.msi_database_schema.specs.System.{columns_name, tables_columns, tables_name}
use Rattle.msi_database_changes.specs.Database.{has_table}
use Rattle.msi_database_storage.specs.Kept.{Kept}
use Rattle.msi_transform_records.specs.declared.action.Action.{Action}
use Rattle.msi_transform_records.specs.declared.action.Action.TheVariants.{Add, Remove, Change}
use Rattle.msi_transform_records.specs.declared.shape.Shape.{Shape}
use Rattle.msi_transform_records.specs.Actions.{told}
use Rattle.msi_transform.specs.Transforms.{shapes_of}
use Rattle.msi_transform_schema.specs.SchemaApplying.{system_rows}
use Rattle.msi_transform_rows.specs.KeyOfRows.{key_cmp}
use Rattle.msi_transform_rows.specs.RowStreams.{is_of_streams}
use Rattle.msi_transform_making.specs.Making.{ToldRecord, ToldRow, ToldRows, by_keys, columns_before}
use Rattle.msi_transform_making.specs.Making.{columns_in_table, differences, records_of_table, records_of_tables}
use Rattle.msi_transform_making.specs.Making.{tells_stream, told_names, told_rows, told_values}

-- RECORDS CARRIED OUT ON ROWS, AS VALUES

-- the columns that a record gives other values, each with its number and the value: a key's columns stay
abbrev pub is_of_key : (ℕ × Shape) × Value → Bool
is_of_key e = e.0.1.is_key

abbrev pub changed_values : List ColumnDef → ToldRecord → List ((ℕ × Shape) × Value)
changed_values columns r = filter (λ e. not (is_of_key e)) (zip (told (shapes_of columns) r.action) r.values)

abbrev pub with_value : List Value → (ℕ × Shape) × Value → List Value
with_value values e = set values e.0.0 e.1

-- a row that is changed: where the record names a column of streams, the row's stream becomes the record's
abbrev pub is_change_of_streams : (ℕ × Shape) × Value → Bool
is_change_of_streams e = is_of_streams e.0.1.coltype

abbrev pub changed_row : List ColumnDef → ToldRecord → ToldRow → ToldRow
changed_row columns r row = record {
  values = fold with_value row.values (changed_values columns r);
  stream = if list_any is_change_of_streams (changed_values columns r) then r.stream else row.stream;
}

-- a row that is added: null in the columns for which the record has no value
abbrev pub added_row : List ColumnDef → ToldRecord → ToldRow
added_row columns r =
    record { values = r.values ++ replicate (length columns - length r.values) Null; stream = r.stream }

-- the row of a record's key goes, becomes another, or comes; a row that isn't there isn't changed
abbrev pub done_by : List ColumnDef → ToldRows → ToldRecord → Action → ToldRows
done_by columns rows r Remove = filter (λ e. not (eq_by_cmp key_cmp r.key e.0)) rows
done_by columns rows r (Change mask) =
    option_map_or (λ row. put key_cmp r.key (changed_row columns r row) rows) (find key_cmp r.key rows) rows
done_by columns rows r (Add k) = put key_cmp r.key (added_row columns r) rows

abbrev pub record_done : List ColumnDef → ToldRows → ToldRecord → ToldRows
record_done columns rows r = done_by columns rows r r.action

-- one record after the other
abbrev pub carried_out : List ColumnDef → ToldRows → List ToldRecord → ToldRows
carried_out columns rows records = fold (record_done columns) rows records

-- WHAT DIFFERS, CARRIED OUT

-- no column of the key is one of streams
abbrev pub is_key_of_streams : ColumnDef → Bool
is_key_of_streams c = c.is_primary_key && is_of_streams c.coltype

-- A row beside its key has a value for each column, and a stream where a value of a column of streams isn't null
pub record IsRow (columns : List ColumnDef) (e : List Value × ToldRow) : Type 0 where
  pub long : length e.1.values ≡ length columns
  pub key : key_of columns e.1.values ≡ e.0
  pub stream : is_some e.1.stream ≡ tells_stream (zip columns e.1.values)

-- and all its columns of streams have that one stream
pub record IsWholeRow (columns : List ColumnDef) (e : List Value × ToldRow) : Type 0 where
  pub row : IsRow columns e
  pub shared : told_values (is_some e.1.stream) columns e.1.values ≡ e.1.values

-- The records of what differs between the rows of a table, carried out on the old rows, give the new ones
pub record AreOldRows (columns : List ColumnDef) (rows : ToldRows) : Type 0 where
  pub sorted : T (is_sorted key_cmp rows)
  pub each : AllByRecursion (IsRow columns) rows

pub record AreNewRows (columns : List ColumnDef) (rows : ToldRows) : Type 0 where
  pub sorted : T (is_sorted key_cmp rows)
  pub each : AllByRecursion (IsWholeRow columns) rows

abbrev pub DifferencesGiveNewRows : Type 0
DifferencesGiveNewRows = (columns : List ColumnDef) (old new : ToldRows) → list_any is_key_of_streams columns ≡ false
    → AreOldRows columns old → AreNewRows columns new → carried_out columns old (differences columns old new) ≡ new

-- THE ROWS OF A TABLE

-- each row has a cell for each column
abbrev pub HasWholeRows : Kept → List ℕ → Type 0
HasWholeRows k name = AllByRecursion (λ (row : List ValueRef). length row ≡ length (columns_in_table k name))
    (system_rows k.database name)

-- a table gets columns behind those that it has, none of the key
pub record GainsPlainColumns (before after : List ColumnDef) : Type 0 where
  pub begun : take (length before) (shapes_of after) ≡ shapes_of before
  pub plain : list_any (λ c. c.is_primary_key) (drop (length before) after) ≡ false

-- old's rows of a table of new: null in the columns that are added; none where old lacks the table
abbrev pub rows_before : Kept → Kept → List ℕ → ToldRows
rows_before old new name = if has_table name old.database
    then told_rows old name (length (columns_in_table new name) - columns_before old.database name) else []

-- a table that can have records in a transform
pub record IsTellable (old new : Kept) (name : List ℕ) : Type 0 where
  pub key : list_any is_key_of_streams (columns_in_table new name) ≡ false
  pub whole : HasWholeRows new name
  pub before : has_table name old.database ≡ true
      → HasWholeRows old name × GainsPlainColumns (columns_in_table old name) (columns_in_table new name)

-- the records of a table, carried out on old's rows, give new's
abbrev pub RecordsGiveNewTable : Type 0
RecordsGiveNewTable = (old new : Kept) (name : List ℕ) → IsTellable old new name
    → carried_out (columns_in_table new name) (rows_before old new name) (records_of_table old new name)
    ≡ told_rows new name 0

-- THE LIST OF TABLES

-- `_Tables` has a row for each other table than itself and `_Columns`, which are there
abbrev pub listed_row : List ℕ → List Value × ToldRow
listed_row name = (Str name ∷ [], record { values = Str name ∷ []; stream = None })

pub record ListsItsTables (k : Kept) : Type 0 where
  pub listed : told_rows k tables_name 0 ≡ by_keys (map listed_row (told_names k))
  pub tables : has_table tables_name k.database ≡ true
  pub columns : has_table columns_name k.database ≡ true

-- the records of `_Tables`, carried out on old's list, give new's
abbrev pub RecordsGiveNewList : Type 0
RecordsGiveNewList = (old new : Kept) → ListsItsTables old → ListsItsTables new
    → carried_out tables_columns (told_rows old tables_name 0) (records_of_tables old.database new.database)
    ≡ told_rows new tables_name 0
