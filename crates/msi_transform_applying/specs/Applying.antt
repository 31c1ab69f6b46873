-- Applying a transform to a package's database: the pool and the streams that it leaves, or the first refusal.
use Rattle.std.specs.Prelude.{ℕ, ◌+◌, Bool, true, false, not, List, [], ◌∷◌, ◌++◌, map, length, Option, Some, None}
use Rattle.std.specs.Prelude.{option_and_then, if◌then◌else◌, filter, bytes_eq, ◌&&◌, ◌||◌}
use Rattle.std.specs.Prelude.{is_none, ◌==◌, nat_lt, Result, Ok}
use Rattle.std.specs.List.{flat_map, list_all, list_any}
use Rattle.std.specs.Option.{option_map_or}
use Rattle.msi_base.specs.declared.codepage.CodePage.{CodePage}
use Rattle.msi_base.specs.declared.codepage.CodePage.TheVariants.{Utf8}
use Rattle.msi_base.specs.declared.errors.ErrorKind.TheVariants.{InvalidData, InvalidInput, NotFound}
use Rattle.msi_base.specs.Pages.{bytes_in, text_in}
use Rattle.msi_base.specs.Refusals.{Refusals, unless_refused}
use Rattle.msi_pool.specs.Pool.{Place, Pool}
use Rattle.msi_pool.specs.FirstFit.{is_long_with}
use Rattle.msi_table_cells.specs.declared.cell.ValueRef.{ValueRef}
use Rattle.msi_table_cells.specs.declared.cell.ValueRef.TheVariants as cell
use Rattle.msi_table_cells.specs.CellValues.{row_values}
use Rattle.msi_table_cells.specs.KeyOrder.{key_of}
use Rattle.msi_table_cells.specs.TableCells.{TableCells}
use Rattle.msi_table_values.specs.declared.value.Value.{Value}
use Rattle.msi_table_values.specs.Columns.{ColumnDef}
use Rattle.msi_database_schema.specs.Keys.{is_table_name, table_key}
use Rattle.msi_database_schema.specs.System.{columns_columns, columns_name, is_schema_table}
use Rattle.msi_database_schema.specs.System.{tables_columns, tables_name}
use Rattle.msi_database_changes.specs.Database.{Database, rows_of}
use Rattle.msi_database_changes.specs.Texts.{PoolInUse}
use Rattle.msi_database_changes.specs.declared.storing.Stored.{Stored}
use Rattle.msi_database_storage.specs.Kept.{Kept}
use Rattle.msi_database_storage.specs.Storing.{stored_in}
use Rattle.msi_database_storage.specs.Streams.{Streams, stream_at, stream_of_rows}
use Rattle.msi_database_storage.specs.Widening.{streams_widened}
pub use Rattle.msi_transform_rows.specs.RecordRefusals.{◌>>=◌, Refusal, at_record, in_turn_from, nowhere}
use Rattle.msi_transform.specs.Transforms.{TransformDef, records_for, shapes_of}
use Rattle.msi_transform_rows.specs.RowStreams.{brought, has_streams, is_of_streams, row_stream, row_stream_gone}
use Rattle.msi_transform_rows.specs.RowChanges.{Rows, RowsInHand, TableChange, by_key, keyed, record_applied}
use Rattle.msi_transform_schema.specs.SchemaChanges.{SchemaChange, SchemaInHand, TableInHand, TablesTold}
use Rattle.msi_transform_schema.specs.SchemaChanges.{columns_in_hand, columns_of_package, is_added}
use Rattle.msi_transform_schema.specs.SchemaChanges.{is_gone, plain_row, rows_of_package, table_in_hand}
use Rattle.msi_transform.specs.declared.conditions.ErrorConditions.{ErrorConditions}
use Rattle.msi_transform_rows.specs.declared.row.RowInHand.{RowInHand}
use Rattle.msi_transform_rows.specs.declared.row.RowStream.{RowStream}
use Rattle.msi_transform_rows.specs.declared.row.RowStream.TheVariants.{AsBefore, Gone, Brought}
use Rattle.msi_transform_rows.specs.TableRecords.{all_applied, changes_schema}
use Rattle.msi_transform_schema.specs.SchemaApplying.{have_own_keys, page_refusals, schema_applied}

-- THE ROWS

-- a table that is stored anew: its columns, and its rows with their keys
pub record TableAnew : Type 0 where
  pub name : List ℕ
  pub columns : List ColumnDef
  pub rows : List (List Value × RowInHand)

-- the tables that are stored anew so far, the pool, and what becomes of other streams
pub record TablesInHand : Type 0 where
  pub tables : List TableAnew
  pub pool : PoolInUse
  pub streams : List Stored

-- a row with null in each column that is added; in a first column of streams its stream is null too
abbrev pub null_in : ColumnDef → ValueRef
null_in c = if is_of_streams c.coltype then cell.Binary else cell.Null

abbrev pub gains_streams : List ColumnDef → List ColumnDef → Bool
gains_streams columns added = has_streams added && not (has_streams columns)

abbrev pub lengthened_row : List ColumnDef → List ColumnDef → List ValueRef → RowInHand
lengthened_row columns added row = record {
  cells = row ++ map null_in added;
  stream = if gains_streams columns added then Gone else AsBefore;
}

abbrev pub rows_begun : Database → List ℕ → TableInHand → List RowInHand
rows_begun d name t = map (lengthened_row (columns_of_package d name t.standing) t.added)
    (rows_of_package d name t.standing)

abbrev pub streams_begun : Database → List ℕ → TableInHand → List Stored
streams_begun d name t = if gains_streams (columns_of_package d name t.standing) t.added
    then flat_map (λ row. row_stream_gone name (key_of (columns_of_package d name t.standing)
    (row_values d.pool.places row))) (rows_of_package d name t.standing)
    else []

-- a table without a key, with a key of streams, or in which two rows share a key
abbrev pub is_broken : Database → List ColumnDef → List (List ValueRef) → Bool
is_broken d columns rows = not (list_any (λ c. c.is_primary_key) columns)
    || list_any (λ c. c.is_primary_key && is_of_streams c.coltype) columns
    || not (have_own_keys d.pool.places columns rows)

abbrev pub table_refusals : Database → List ℕ → TableInHand → Refusals
table_refusals d name t = (is_gone t.standing, NotFound)
    ∷ (not (is_table_name name), InvalidData)
    ∷ (is_broken d (columns_in_hand d name t) (rows_of_package d name t.standing), InvalidData) ∷ []

abbrev pub with_anew : List ℕ → List ColumnDef → TablesInHand → RowsInHand → TablesInHand
with_anew name columns s r = record {
  tables = s.tables ++ record { name = name; columns = columns; rows = r.rows } ∷ [];
  pool = r.pool;
  streams = r.streams;
}

abbrev pub rows_in_hand : Database → List ℕ → TableInHand → TablesInHand → RowsInHand
rows_in_hand d name t s = record {
  rows = by_key (map (keyed (columns_in_hand d name t) d.pool.places) (rows_begun d name t));
  pool = s.pool;
  streams = s.streams ++ streams_begun d name t;
}

abbrev pub change_of : SchemaChange → List ℕ → TableInHand → TableChange
change_of change name t = record {
  name = name;
  columns = columns_in_hand change.database name t;
  by = change.by;
  passing = change.passing;
}

abbrev pub table_applied : SchemaChange → TablesTold → ℕ → TablesInHand → List ℕ × List ℕ
    → Result TablesInHand Refusal
table_applied change told number s e =
    let d = change.database in
    let t = table_in_hand d told e.0 in
    let columns = columns_in_hand d e.0 t in
    at_record number 0 (unless_refused (table_refusals d e.0 t) (rows_in_hand d e.0 t s)) >>=
    all_applied number change.by (shapes_of columns) e.1 (record_applied (change_of change e.0 t)) >>=
    λ r. Ok (with_anew e.0 columns s r)

abbrev pub table_or_schema : SchemaChange → TablesTold → ℕ → TablesInHand → List ℕ × List ℕ
    → Result TablesInHand Refusal
table_or_schema change told number s e =
    if is_schema_table e.0 then Ok s else table_applied change told number s e

-- the tables of the transform in turn, the first of which has the number n; `_Tables` and `_Columns` are passed over
abbrev pub tables_in_turn : SchemaChange → TablesTold → ℕ → TablesInHand → List (List ℕ × List ℕ)
    → Result TablesInHand Refusal
tables_in_turn change told n s [] = Ok s
tables_in_turn change told n s (e ∷ es) =
    table_or_schema change told n s e >>= λ s. tables_in_turn change told (n + 1) s es

-- the tables that are added or get columns, and have no records
abbrev pub is_lengthened : TableInHand → Bool
is_lengthened t = is_added t.standing || (not (is_gone t.standing) && nat_lt 0 (length t.added))

abbrev pub lengthened_alone : TransformDef → TablesTold → TablesTold
lengthened_alone t told = filter (λ e. is_lengthened e.1 && is_none (records_for e.0 t)) told

abbrev pub table_lengthened : Database → List ℕ × TableInHand → TableAnew
table_lengthened d e = record {
  name = e.0;
  columns = columns_in_hand d e.0 e.1;
  rows = map (keyed (columns_in_hand d e.0 e.1) d.pool.places) (rows_begun d e.0 e.1);
}

abbrev pub with_lengthened : SchemaChange → TablesTold → TablesInHand → TablesInHand
with_lengthened change told s = let alone = lengthened_alone change.by told in record {
  tables = s.tables ++ map (table_lengthened change.database) alone;
  pool = s.pool;
  streams = s.streams ++ flat_map (λ e. streams_begun change.database e.0 e.1) alone;
}

-- the two tables that describe tables, where they are changed
abbrev pub system_anew : List ℕ → List ColumnDef → Rows → TableAnew
system_anew name columns rows = record { name = name; columns = columns; rows = rows }

abbrev pub systems_anew : TransformDef → SchemaInHand → List TableAnew
systems_anew t s = if changes_schema t then system_anew tables_name tables_columns s.listed
    ∷ system_anew columns_name columns_columns s.described ∷ [] else []

abbrev pub tables_begun : SchemaChange → SchemaInHand → TablesInHand
tables_begun change schema = record {
  tables = systems_anew change.by schema;
  pool = schema.pool;
  streams = schema.streams;
}

abbrev pub rows_applied : SchemaChange → SchemaInHand → Result TablesInHand Refusal
rows_applied change schema =
    tables_in_turn change schema.tables 0 (tables_begun change schema) change.by.tables >>=
    λ s. Ok (with_lengthened change schema.tables s)

-- WHAT IS LEFT

-- the page stays where the transform's is neutral
abbrev pub page_after : CodePage → TransformDef → CodePage
page_after page t = if t.page_id == 0 then page else t.pool.page

-- the pool: its page, and references as wide as its places need, and no narrower than they were
abbrev pub pool_left : Pool → TransformDef → PoolInUse → Pool
pool_left pool t used = record {
  page = page_after pool.page t;
  long = is_long_with pool.long used.places;
  places = used.places;
}

abbrev pub cells_anew : TableAnew → List (List ValueRef)
cells_anew t = map (λ e. e.1.cells) t.rows

abbrev pub table_stored : Bool → TableAnew → Stored
table_stored long t =
    record { name = table_key t.name; bytes = stream_of_rows long t.columns (cells_anew t) }

abbrev pub streams_stored : Bool → TablesInHand → List Stored
streams_stored long s = s.streams ++ map (table_stored long) s.tables

-- the streams over which these are stored: where references get wider, each table's is spelled anew
abbrev pub streams_under : Kept → Bool → Streams
streams_under k long = if long && not k.database.pool.long then streams_widened k.database k.streams else k.streams

abbrev pub streams_left : Kept → Bool → TablesInHand → Streams
streams_left k long s = stored_in (streams_stored long s) (streams_under k long)

-- whether something is said of a stream
abbrev pub is_said : List Stored → List ℕ → Bool
is_said stored name = list_any (λ (s : Stored). bytes_eq s.name name) stored

abbrev pub same_stream : Option (List ℕ) → Option (List ℕ) → Bool
same_stream None other = is_none other
same_stream (Some bytes) other = option_map_or (bytes_eq bytes) other false

-- whether a row has the stream that it is to have
abbrev pub has_its_stream : Kept → TransformDef → List Stored → Streams → List ℕ → List Value → RowStream → List ℕ
    → Bool
has_its_stream k t said after table key AsBefore name =
    not (is_said said name) || same_stream (stream_at name after) (stream_at name k.streams)
has_its_stream k t said after table key Gone name = is_none (stream_at name after)
has_its_stream k t said after table key Brought name = same_stream (stream_at name after) (brought t table key)

abbrev pub row_agrees : Kept → TransformDef → List Stored → Streams → List ℕ → List Value × RowInHand → Bool
row_agrees k t said after table e = option_map_or
    (has_its_stream k t said after table e.0 e.1.stream) (row_stream table e.0) true

abbrev pub table_agrees : Kept → TransformDef → List Stored → Streams → TableAnew → Bool
table_agrees k t said after table =
    not (has_streams table.columns) || list_all (row_agrees k t said after table.name) table.rows

-- the tables that stay as they are
abbrev pub is_anew : TablesInHand → List ℕ → Bool
is_anew s name = list_any (λ (t : TableAnew). bytes_eq t.name name) s.tables

abbrev pub stays : Database → TablesTold → TablesInHand → List ℕ → Bool
stays d told s name = not (is_anew s name) && not (is_gone (table_in_hand d told name).standing)

abbrev pub table_staying : Database → List ℕ × TableCells → TableAnew
table_staying d e = record {
  name = e.0;
  columns = e.1.columns;
  rows = map (λ row. keyed e.1.columns d.pool.places (plain_row row)) (rows_of e.1);
}

abbrev pub tables_left : Database → TablesTold → TablesInHand → List TableAnew
tables_left d told s = s.tables ++ map (table_staying d) (filter (λ e. stays d told s e.0) d.tables)

-- two rows whose streams have one name have the same stream
abbrev pub streams_agree : Kept → TransformDef → TablesTold → TablesInHand → Bool → Bool
streams_agree k t told s long = list_all
    (table_agrees k t s.streams (streams_left k long s))
    (tables_left k.database told s)

-- each text can be written in the page, so that it is read back, as each can in UTF-8
abbrev pub reads_back : CodePage → List ℕ → Bool
reads_back Utf8 text = true
reads_back page text = option_map_or (bytes_eq text) (option_and_then (text_in page) (bytes_in page text)) false

abbrev pub texts_read_back : Pool → Bool
texts_read_back pool = list_all (λ (p : Place). (p.count == 0) || reads_back pool.page p.text) pool.places

-- the pool and the streams that a transform leaves
pub record Left : Type 0 where
  pub pool : Pool
  pub streams : Streams

abbrev pub last_refusals : Kept → TransformDef → TablesTold → TablesInHand → Pool → Refusals
last_refusals k t told s pool =
    (not (streams_agree k t told s pool.long), InvalidInput) ∷ (not (texts_read_back pool), InvalidInput) ∷ []

-- a transform applied to a database whose page has this id
abbrev pub change_with : Kept → TransformDef → ErrorConditions → SchemaChange
change_with k t passing =
    record { database = k.database; streams = k.streams; by = t; passing = passing }

-- what is in hand once the tables are changed, before they are stored
pub record TablesChanged : Type 0 where
  pub told : TablesTold
  pub tables : TablesInHand

abbrev pub changed_with : TablesTold → TablesInHand → TablesChanged
changed_with told tables = record { told = told; tables = tables }

abbrev pub finished : Kept → TransformDef → TablesChanged → Result Left Refusal
finished k t c = let pool = pool_left k.database.pool t c.tables.pool in
    nowhere (unless_refused (last_refusals k t c.told c.tables pool)
    (record { pool = pool; streams = streams_left k pool.long c.tables }))

abbrev pub rows_changed : SchemaChange → SchemaInHand → Result TablesChanged Refusal
rows_changed change schema = rows_applied change schema >>= λ tables. Ok (changed_with schema.tables tables)

abbrev pub tables_changed : SchemaChange → ℕ → Result TablesChanged Refusal
tables_changed change page_id =
    nowhere (unless_refused (page_refusals page_id change.by change.passing) change) >>= schema_applied >>=
    rows_changed change

abbrev pub applied : Kept → ℕ → TransformDef → ErrorConditions → Result Left Refusal
applied k page_id t passing = tables_changed (change_with k t passing) page_id >>= finished k t
