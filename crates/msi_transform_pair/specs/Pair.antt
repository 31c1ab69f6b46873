-- The two databases of which a transform is made: their rows as a transform tells them, and why there is none.
use Rattle.std.specs.Prelude.{ℕ, ◌+◌, Bool, true, false, not, List, [], ◌∷◌, ◌++◌, map, filter, zip, length}
use Rattle.std.specs.Prelude.{Option, Some, None, option_map, option_and_then, unwrap_or, if◌then◌else◌, nat_lt}
use Rattle.std.specs.Prelude.{◌==◌, ◌&&◌, ◌||◌, is_some, bytes_eq, drop, replicate}
use Rattle.std.specs.Prelude.{◌≡◌, ◌⊎◌}
use Rattle.std.specs.FinMap.{find, put}
use Rattle.std.specs.List.{flat_map, list_any}
use Rattle.std.specs.Ordering.{eq_by_cmp, is_eq}
use Rattle.msi_base.specs.Lists.{has_pair}
use Rattle.msi_base.specs.Refusals.{Refusals, first_refusal}
use Rattle.msi_base.specs.declared.codepage.CodePage.{CodePage}
use Rattle.msi_base.specs.declared.errors.ErrorKind.{ErrorKind}
use Rattle.msi_base.specs.declared.errors.ErrorKind.TheVariants.{InvalidInput, OutOfMemory}
use Rattle.msi_pool.specs.Pool.{Place, Pool}
use Rattle.msi_table_cells.specs.CellValues.{row_values}
use Rattle.msi_table_cells.specs.KeyOrder.{key_of}
use Rattle.msi_table_values.specs.declared.value.Value.{Value}
use Rattle.msi_table_values.specs.declared.value.Value.TheVariants.{Null, Str, Binary}
use Rattle.msi_table_values.specs.Values.{value_cmp}
use Rattle.msi_table_values.specs.Columns.{ColumnDef}
use Rattle.msi_database_schema.specs.Schema.{value_at}
use Rattle.msi_database_schema.specs.System.{columns_name, is_schema_table}
use Rattle.msi_database_changes.specs.Database.{Database, has_table, table_at}
use Rattle.msi_database_storage.specs.Kept.{Kept}
use Rattle.msi_database_storage.specs.Streams.{stream_at}
use Rattle.msi_transform_rows.specs.RowStreams.{has_streams, is_of_streams, row_stream, stream_text}
use Rattle.msi_transform_rows.specs.KeyOfRows.{key_cmp}
use Rattle.msi_transform_schema.specs.SchemaChanges.{is_name_to_list}
use Rattle.msi_transform_applying.specs.Applying.{is_broken, reads_back}
use Rattle.msi_transform_schema.specs.SchemaApplying.{system_rows}

-- ROWS AS THEY ARE TOLD

-- a row: its values, of which those in columns of streams are null without a stream; and its stream
pub record ToldRow : Type 0 where
  pub values : List Value
  pub stream : Option (List ℕ)

-- rows beside their keys, in the order of these
abbrev pub ToldRows : Type 0
ToldRows = List (List Value × ToldRow)

-- the package whose rows are told: its database with all streams
abbrev pub stream_of_row : Kept → List ℕ → List Value → Option (List ℕ)
stream_of_row k table key = option_and_then (λ name. stream_at name k.streams) (row_stream table key)

abbrev pub told_stream : Kept → List ℕ → List ColumnDef → List Value → Option (List ℕ)
told_stream k table columns key = if has_streams columns then stream_of_row k table key else None

-- whether there is a stream
abbrev pub told_value : Bool → ColumnDef × Value → Value
told_value there e = if is_of_streams e.0.coltype then (if there then Binary else Null) else e.1

abbrev pub told_values : Bool → List ColumnDef → List Value → List Value
told_values there columns values = map (told_value there) (zip columns values)

-- with null in each of so many columns that are added; a row of a table that gets its first column of streams has none
abbrev pub told_row_with : Option (List ℕ) → List ColumnDef → ℕ → List Value → ToldRow
told_row_with stream columns added values = record {
  values = told_values (is_some stream) columns values ++ replicate added Null;
  stream = stream;
}

abbrev pub told_row : Kept → List ℕ → List ColumnDef → ℕ → List Value → List Value × ToldRow
told_row k table columns added values = let key = key_of columns values in
    (key, told_row_with (told_stream k table columns key) columns added values)

-- a table's rows by their keys, in the order of these
abbrev pub by_keys : ToldRows → ToldRows
by_keys [] = []
by_keys (e ∷ es) = put key_cmp e.0 e.1 (by_keys es)

abbrev pub values_in_table : Kept → List ℕ → List (List Value)
values_in_table k name = map (row_values k.database.pool.places) (system_rows k.database name)

abbrev pub columns_in_table : Kept → List ℕ → List ColumnDef
columns_in_table k name = unwrap_or (option_map (λ t. t.columns) (table_at name k.database)) []

abbrev pub told_rows : Kept → List ℕ → ℕ → ToldRows
told_rows k name added = by_keys (map (told_row k name (columns_in_table k name) added) (values_in_table k name))

abbrev pub columns_before : Database → List ℕ → ℕ
columns_before d name = length (unwrap_or (option_map (λ t. t.columns) (table_at name d)) [])

abbrev pub told_names : Kept → List (List ℕ)
told_names k = filter (λ name. not (is_schema_table name)) (map (λ t. t.0) k.database.tables)

-- the tables that another database hasn't
abbrev pub names_beside : Database → Database → List (List ℕ)
names_beside d other = filter (λ name. not (has_table name other)) (map (λ t. t.0) d.tables)

-- the rows of `_Columns` that describe the columns of a table
abbrev pub described_columns : Kept → List ℕ → List (List Value)
described_columns k name = filter (λ row. eq_by_cmp value_cmp (value_at 0 row) (Str name))
    (map (λ e. e.1.values) (told_rows k columns_name 0))

-- WHY THERE IS NONE, of two sound databases, the first reason that holds

pub record Pair : Type 0 where
  pub old_page : ℕ
  pub old : Kept
  pub new_page : ℕ
  pub new : Kept

abbrev pub is_odd_table : Kept → List ℕ → Bool
is_odd_table k name = not (is_name_to_list name) || (has_table name k.database
    && is_broken k.database (columns_in_table k name) (system_rows k.database name))

-- a package of which no transform is made
abbrev pub is_unfit : Kept → Bool
is_unfit k = list_any (is_odd_table k) (told_names k)

abbrev pub loses_page : Pair → Bool
loses_page p = (p.new_page == 0) && not (p.old_page == 0)

abbrev pub is_lacking : CodePage → Place → Bool
is_lacking page place = nat_lt 0 place.count && not (reads_back page place.text)

abbrev pub lacks_text_of : Pool → Bool
lacks_text_of pool = list_any (is_lacking pool.page) pool.places

abbrev pub lacks_text : Kept → Bool
lacks_text k = lacks_text_of k.database.pool

-- The texts that name the streams of a table's rows: of those that have one; and of all rows that another package
-- lacks, where one of the tables has a column of streams. A transform with two of one name would say two things of one
-- stream: `a.b` and c in a table of two keys, say, and `a` and b.c
abbrev pub stream_texts : List ℕ → List Value × ToldRow → List (List ℕ)
stream_texts table e = if is_some e.1.stream then stream_text table e.0 ∷ [] else []

abbrev pub streams_in : Kept → List ℕ → List (List ℕ)
streams_in k table = if has_streams (columns_in_table k table)
    then flat_map (stream_texts table) (told_rows k table 0) else []

abbrev pub is_row_gone : ToldRows → List Value × ToldRow → Bool
is_row_gone others e = not (is_some (find key_cmp e.0 others))

abbrev pub gone_streams : Kept → Kept → List ℕ → List (List ℕ)
gone_streams old new table = if has_streams (columns_in_table old table) || has_streams (columns_in_table new table)
    then map (λ e. stream_text table e.0) (filter (is_row_gone (told_rows new table 0)) (told_rows old table 0)) else []

abbrev pub shared_among : List (List ℕ) → Bool
shared_among texts = has_pair bytes_eq texts

abbrev pub shares_stream : Pair → Bool
shares_stream p = shared_among (flat_map (streams_in p.new) (told_names p.new)
    ++ flat_map (gone_streams p.old p.new) (told_names p.old))

-- both packages describe the columns that both have alike, and what is added is no key
abbrev pub same_row : List Value → List Value → Bool
same_row row other = is_eq (key_cmp row other)

abbrev pub begin_alike : List (List Value) → List (List Value) → Bool
begin_alike [] rows = true
begin_alike (row ∷ rows) [] = false
begin_alike (row ∷ rows) (other ∷ others) = same_row row other && begin_alike rows others

abbrev pub keeps_columns : Kept → Kept → List ℕ → Bool
keeps_columns old new name = begin_alike (described_columns old name) (described_columns new name)
    && not (list_any (λ c. c.is_primary_key) (drop (columns_before old.database name) (columns_in_table new name)))

abbrev pub gains_columns : Kept → Kept → List ℕ → Bool
gains_columns old new name =
    nat_lt (columns_before old.database name) (length (columns_in_table new name))

abbrev pub has_odd_columns : List ColumnDef → Bool
has_odd_columns columns = nat_lt 32 (length columns) || list_any (λ c. length c.name == 0) columns
    || has_pair bytes_eq (map (λ c. c.name) columns)

abbrev pub table_reasons : Pair → List ℕ → Refusals
table_reasons p name = (has_table name p.old.database && not (keeps_columns p.old p.new name), InvalidInput)
    ∷ (gains_columns p.old p.new name && has_odd_columns (columns_in_table p.new name), InvalidInput) ∷ []

abbrev pub reasons : Pair → Refusals
reasons p = (is_unfit p.old, InvalidInput) ∷ (is_unfit p.new, InvalidInput) ∷ (loses_page p, InvalidInput)
    ∷ (lacks_text p.new, InvalidInput) ∷ (shares_stream p, InvalidInput)
    ∷ flat_map (table_reasons p) (told_names p.new)

-- a fault of a check, where it isn't want of memory: the first of these that holds
abbrev pub StopsBy : Refusals → ErrorKind → Type 0
StopsBy refusals kind = (kind ≡ OutOfMemory) ⊎ (first_refusal refusals ≡ Some kind)

-- one database beside another, each with the id of its pool's page
pub record Side : Type 0 where
  pub page_id : ℕ
  pub kept : Kept

abbrev pub pair_of : Side → Side → Pair
pair_of old new =
    record { old_page = old.page_id; old = old.kept; new_page = new.page_id; new = new.kept }

-- the faults that have to pass where the transform is applied to the old package
abbrev pub needs_other_page : Pair → Bool
needs_other_page p = not (p.old_page == 0) && not (p.old_page == p.new_page)
