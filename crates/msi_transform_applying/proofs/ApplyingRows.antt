-- Worked examples of applying a transform, by computation: what becomes of the rows, as values in the tables' order.
use Rattle.std.specs.Prelude.{◌≡◌, ℕ, ◌++◌, Bool, true, false, List, [], ◌∷◌, codes, refl, Option, Some, None, pos, negsuc}
use Rattle.std.specs.Prelude.{Result, Ok, Err, map, unwrap_or}
use Rattle.msi_base.specs.declared.codepage.CodePage.TheVariants.{Utf8}
use Rattle.msi_base.specs.declared.errors.ErrorKind.{ErrorKind}
use Rattle.msi_base.specs.declared.errors.ErrorKind.TheVariants.{InvalidData, InvalidInput, NotFound, AlreadyExists}
use Rattle.msi_pool.specs.Pool.{Place, Pool}
use Rattle.msi_table_cells.specs.declared.cell.ValueRef.{ValueRef}
use Rattle.msi_table_cells.specs.CellValues.{row_values}
use Rattle.msi_table_cells.specs.TableCells.{TableCells}
use Rattle.msi_table_values.specs.declared.value.Value.{Value}
use Rattle.msi_table_values.specs.declared.value.Value.TheVariants.{Null, Int, Str, Binary}
use Rattle.msi_table_values.specs.Columns.{ColumnDef, begun_column, column_of_bits}
use Rattle.msi_database_schema.specs.System.{columns_columns, columns_name, tables_columns, tables_name}
use Rattle.msi_database_changes.specs.Database.{Database}
use Rattle.msi_database_changes.specs.Texts.{PoolInUse, cell_put, in_turn}
use Rattle.msi_database_storage.specs.Streams.{Streams}
use Rattle.msi_transform_records.specs.Cells.{cell_at}
use Rattle.msi_transform_records.specs.Records.{head_at, record_at}
use Rattle.msi_transform.specs.declared.conditions.ErrorConditions.{ErrorConditions}
use Rattle.msi_transform.specs.Transforms.{TransformDef}
use Rattle.msi_transform_schema.specs.SchemaChanges.{SchemaChange}
use Rattle.msi_transform_rows.specs.declared.refusal.RecordPlace.{RecordPlace}
use Rattle.msi_transform_applying.specs.Applying.{◌>>=◌, Refusal, TableAnew, TablesInHand, cells_anew}
use Rattle.msi_transform_applying.specs.Applying.{rows_applied}
use Rattle.msi_transform_schema.specs.SchemaApplying.{schema_applied}

-- ---- the base: T with three rows, P with two, and B with two streams

abbrev pub column : List ℕ → ℕ → ColumnDef
column name bits = unwrap_or (column_of_bits (begun_column name) bits) (begun_column name)

abbrev pub text : List ℕ → Value
text bytes = Str bytes

abbrev pub t_columns : List ColumnDef
t_columns = column (codes "K") 0x2D48 ∷ column (codes "A") 0x1D14 ∷ column (codes "N") 0x1502
    ∷ column (codes "L") 0x1104 ∷ []

abbrev pub p_columns : List ColumnDef
p_columns = column (codes "K1") 0x2502 ∷ column (codes "K2") 0x2D48 ∷ column (codes "V") 0x0D09 ∷ []

abbrev pub b_columns : List ColumnDef
b_columns = column (codes "Name") 0x2D48 ∷ column (codes "Data") 0x1900 ∷ []

abbrev pub t_rows : List (List Value)
t_rows = (Str (codes "a") ∷ Str (codes "x") ∷ Int (pos 1) ∷ Int (pos 100000) ∷ [])
    ∷ (Str (codes "b") ∷ Null ∷ Null ∷ Null ∷ [])
    ∷ (Str (codes "c") ∷ Str (codes "y") ∷ Int (negsuc 4) ∷ Int (pos 0) ∷ []) ∷ []

abbrev pub p_rows : List (List Value)
p_rows = (Int (pos 1) ∷ Str (codes "u") ∷ Str (codes "v") ∷ [])
    ∷ (Int (pos 2) ∷ Str (codes "u") ∷ Str (codes "w") ∷ []) ∷ []

abbrev pub b_rows : List (List Value)
b_rows = (Str (codes "one") ∷ Binary ∷ []) ∷ (Str (codes "two") ∷ Binary ∷ []) ∷ []

abbrev pub described : List ℕ → ℕ → List ℕ → ℕ → List Value
described table number name bits = Str table ∷ Int (pos number) ∷ Str name ∷ Int (pos bits) ∷ []

abbrev pub column_rows : List (List Value)
column_rows = described (codes "B") 1 (codes "Name") 0x2D48 ∷ described (codes "B") 2 (codes "Data") 0x1900
    ∷ described (codes "P") 1 (codes "K1") 0x2502 ∷ described (codes "P") 2 (codes "K2") 0x2D48
    ∷ described (codes "P") 3 (codes "V") 0x0D09
    ∷ described (codes "T") 1 (codes "K") 0x2D48 ∷ described (codes "T") 2 (codes "A") 0x1D14
    ∷ described (codes "T") 3 (codes "N") 0x1502 ∷ described (codes "T") 4 (codes "L") 0x1104 ∷ []

abbrev pub table_rows : List (List Value)
table_rows = (Str (codes "B") ∷ []) ∷ (Str (codes "P") ∷ []) ∷ (Str (codes "T") ∷ []) ∷ []

-- tables whose texts are put into a pool, one after the other
abbrev pub Listing : Type 0
Listing = List (List ℕ × List ColumnDef × List (List Value))

abbrev pub all_tables : Listing
all_tables = (codes "B", b_columns, b_rows) ∷ (codes "P", p_columns, p_rows) ∷ (codes "T", t_columns, t_rows)
    ∷ (columns_name, columns_columns, column_rows) ∷ (tables_name, tables_columns, table_rows) ∷ []

abbrev pub with_first : List ℕ → List ColumnDef → Option (List (List ValueRef) × PoolInUse)
    → (PoolInUse → List (List ℕ × TableCells) × PoolInUse) → List (List ℕ × TableCells) × PoolInUse
with_first name columns None others = ([], record { places = []; is_used = true })
with_first name columns (Some r) others =
    ((name, record { columns = columns; rows = Some r.0 }) ∷ (others r.1).0, (others r.1).1)

abbrev pub stored_tables : Listing → PoolInUse → List (List ℕ × TableCells) × PoolInUse
stored_tables [] pool = ([], pool)
stored_tables ((name, columns, rows) ∷ others) pool =
    with_first name columns (in_turn (in_turn (cell_put true)) pool rows) (stored_tables others)

abbrev pub stored : List (List ℕ × TableCells) × PoolInUse
stored = stored_tables all_tables (record { places = []; is_used = false })

abbrev pub base : Database
base = record {
  pool = record { page = Utf8; long = false; places = stored.1.places };
  tables = stored.0;
  unlisted_validation = [];
}

-- ---- transforms over it

abbrev pub strict : ErrorConditions
strict = record {
  added_row_exists = false;
  removed_row_missing = false;
  added_table_exists = false;
  removed_table_missing = false;
  changed_row_missing = false;
  other_page = false;
}

abbrev pub place : List ℕ → Place
place bytes = record { text = bytes; count = 1 }

abbrev pub transform_of : Bool → List (List ℕ) → List (List ℕ × List ℕ) → Streams → TransformDef
transform_of long texts tables streams = record {
  page_id = 0;
  pool = record { page = Utf8; long = long; places = map place texts };
  tables = tables;
  streams = streams;
}

abbrev pub change_by : ErrorConditions → TransformDef → SchemaChange
change_by passing t = record { database = base; streams = []; by = t; passing = passing }

abbrev pub outcome : ErrorConditions → TransformDef → Result TablesInHand Refusal
outcome passing t = schema_applied (change_by passing t) >>= rows_applied (change_by passing t)

abbrev pub table_of : List Place → TableAnew → List ℕ × List (List Value)
table_of places t = (t.name, map (row_values places) (cells_anew t))

-- the tables that are stored anew, by their rows' values, and the refusal
abbrev pub tables_of : Result TablesInHand Refusal → List (List ℕ × List (List Value))
tables_of (Ok s) = map (table_of s.pool.places) s.tables
tables_of (Err refusal) = []

abbrev pub refusal_of : Result TablesInHand Refusal → Option Refusal
refusal_of (Ok s) = None
refusal_of (Err refusal) = Some refusal

abbrev pub refused_at : ErrorKind → ℕ → ℕ → Option Refusal
refused_at kind table n = Some (record { kind = kind; place = Some (record { table = table; record_number = n }) })

-- ---- rows go, change and come

abbrev pub rows_of_t : List ℕ
rows_of_t = 0 ∷ 0 ∷ 1 ∷ 0
    ∷ 0x0A ∷ 0 ∷ 2 ∷ 0 ∷ 3 ∷ 0 ∷ 0xFF ∷ 0xFF ∷ 0xFF ∷ 0x7F
    ∷ 1 ∷ 4 ∷ 4 ∷ 0 ∷ 0 ∷ 0 ∷ 7 ∷ 0x80 ∷ 5 ∷ 0 ∷ 0 ∷ 0x80 ∷ []

abbrev pub first : TransformDef
first = transform_of false (codes "b" ∷ codes "a" ∷ codes "z" ∷ codes "d" ∷ []) ((codes "T", rows_of_t) ∷ []) []

pub rows_change : tables_of (outcome strict first) ≡ (
  codes "T",
  (Str (codes "a") ∷ Str (codes "z") ∷ Int (pos 1) ∷ Int (negsuc 0) ∷ [])
      ∷ (Str (codes "c") ∷ Str (codes "y") ∷ Int (negsuc 4) ∷ Int (pos 0) ∷ [])
      ∷ (Str (codes "d") ∷ Null ∷ Int (pos 7) ∷ Int (pos 5) ∷ []) ∷ [],
) ∷ []
unfolding record_at head_at cell_at Rattle.std.specs.Str.chars
rows_change = refl

-- a key of two columns
abbrev pub second : TransformDef
second = transform_of false (codes "u" ∷ codes "new" ∷ codes "w" ∷ []) ((
  codes "P",
  0 ∷ 0 ∷ 1 ∷ 0x80 ∷ 1 ∷ 0
      ∷ 4 ∷ 0 ∷ 2 ∷ 0x80 ∷ 1 ∷ 0 ∷ 2 ∷ 0
      ∷ 1 ∷ 3 ∷ 3 ∷ 0x80 ∷ 1 ∷ 0 ∷ 3 ∷ 0 ∷ [],
) ∷ []) []

pub two_keys : tables_of (outcome strict second) ≡ (
  codes "P",
  (Int (pos 2) ∷ Str (codes "u") ∷ Str (codes "new") ∷ [])
      ∷ (Int (pos 3) ∷ Str (codes "u") ∷ Str (codes "w") ∷ []) ∷ [],
) ∷ []
unfolding record_at head_at cell_at Rattle.std.specs.Str.chars
two_keys = refl

-- references of three bytes
abbrev pub wide : TransformDef
wide = transform_of true (codes "a" ∷ codes "z" ∷ [])
    ((codes "T", 2 ∷ 0 ∷ 1 ∷ 0 ∷ 0 ∷ 2 ∷ 0 ∷ 0 ∷ []) ∷ []) []

pub wide_references : tables_of (outcome strict wide) ≡ (
  codes "T",
  (Str (codes "a") ∷ Str (codes "z") ∷ Int (pos 1) ∷ Int (pos 100000) ∷ [])
      ∷ (Str (codes "b") ∷ Null ∷ Null ∷ Null ∷ [])
      ∷ (Str (codes "c") ∷ Str (codes "y") ∷ Int (negsuc 4) ∷ Int (pos 0) ∷ []) ∷ [],
) ∷ []
unfolding record_at head_at cell_at Rattle.std.specs.Str.chars
wide_references = refl

-- ---- a table gets a column, and its rows null there

abbrev pub fourth : List ℕ → TransformDef
fourth record_of_p = transform_of false (codes "P" ∷ codes "W" ∷ codes "u" ∷ [])
    ((codes "P", record_of_p) ∷ (columns_name, 1 ∷ 4 ∷ 1 ∷ 0 ∷ 4 ∷ 0x80 ∷ 2 ∷ 0 ∷ 2 ∷ 0x95 ∷ []) ∷ []) []

abbrev pub rows_in_third : List (List ℕ × List (List Value)) → List (List Value)
rows_in_third (listed ∷ columns ∷ p ∷ others) = p.1
rows_in_third _ = []

abbrev pub rows_of_p : Result TablesInHand Refusal → List (List Value)
rows_of_p result = rows_in_third (tables_of result)

pub column_comes : rows_of_p (outcome strict (fourth (8 ∷ 0 ∷ 1 ∷ 0x80 ∷ 3 ∷ 0 ∷ 9 ∷ 0x80 ∷ []))) ≡
    (Int (pos 1) ∷ Str (codes "u") ∷ Str (codes "v") ∷ Int (pos 9) ∷ [])
    ∷ (Int (pos 2) ∷ Str (codes "u") ∷ Str (codes "w") ∷ Null ∷ []) ∷ []
unfolding record_at head_at cell_at Rattle.std.specs.Str.chars
column_comes = refl

pub nulls_come : rows_of_p (outcome strict (fourth (8 ∷ 0 ∷ 1 ∷ 0x80 ∷ 3 ∷ 0 ∷ 0 ∷ 0 ∷ []))) ≡
    (Int (pos 1) ∷ Str (codes "u") ∷ Str (codes "v") ∷ Null ∷ [])
    ∷ (Int (pos 2) ∷ Str (codes "u") ∷ Str (codes "w") ∷ Null ∷ []) ∷ []
unfolding record_at head_at cell_at Rattle.std.specs.Str.chars
nulls_come = refl

-- ---- refusals: of the record that is at fault, unless it passes

abbrev pub lenient : ErrorConditions
lenient = record strict { removed_row_missing = true }

abbrev pub missing : TransformDef
missing = transform_of false (codes "a" ∷ codes "q" ∷ [])
    ((codes "T", 0 ∷ 0 ∷ 1 ∷ 0 ∷ 0 ∷ 0 ∷ 2 ∷ 0 ∷ []) ∷ []) []

pub missing_row : refusal_of (outcome strict missing) ≡ refused_at NotFound 0 1
unfolding record_at head_at cell_at Rattle.std.specs.Str.chars
missing_row = refl

pub missing_passes : tables_of (outcome lenient missing) ≡ (
  codes "T",
  (Str (codes "b") ∷ Null ∷ Null ∷ Null ∷ [])
      ∷ (Str (codes "c") ∷ Str (codes "y") ∷ Int (negsuc 4) ∷ Int (pos 0) ∷ []) ∷ [],
) ∷ []
unfolding record_at head_at cell_at Rattle.std.specs.Str.chars
missing_passes = refl

-- the second record is cut: nothing is applied
abbrev pub cut : TransformDef
cut = transform_of false (codes "a" ∷ [])
    ((codes "T", 0 ∷ 0 ∷ 1 ∷ 0 ∷ 0 ∷ 0 ∷ 1 ∷ []) ∷ []) []

pub cut_record : refusal_of (outcome strict cut) ≡ refused_at InvalidData 0 1
unfolding record_at head_at cell_at Rattle.std.specs.Str.chars
cut_record = refl
