-- Making a transform of two packages: what it says of each table, in which order, or why there is none.
use Rattle.std.specs.Prelude.{ℕ, ◌+◌, ◌-◌, ◌^◌, Bool, true, false, not, List, [], ◌∷◌, ◌++◌, map, filter, zip, length}
use Rattle.std.specs.Prelude.{Option, Some, None, option_map, option_and_then, if◌then◌else◌, nat_lt}
use Rattle.std.specs.Prelude.{◌==◌, ◌&&◌, ◌||◌, drop, take, filter_map}
use Rattle.std.specs.Prelude.{Result, Ok}
use Rattle.std.specs.FinMap.{find, put}
use Rattle.std.specs.List.{flat_map, fold, list_all, list_any, enumerate_from}
use Rattle.std.specs.Option.{option_map_or}
use Rattle.std.specs.Ordering.{eq_by_cmp}
use Rattle.msi_base.specs.Lists.{list_cmp}
use Rattle.msi_base.specs.Refusals.{or_refused, unless_refused, ◌>>=◌}
use Rattle.msi_base.specs.declared.errors.ErrorKind.{ErrorKind}
use Rattle.msi_base.specs.declared.errors.ErrorKind.TheVariants.{InvalidInput}
use Rattle.msi_pool.specs.FirstFit.{is_long_with}
use Rattle.msi_table_values.specs.declared.value.Value.{Value}
use Rattle.msi_table_values.specs.declared.value.Value.TheVariants.{Null, Str, Binary}
use Rattle.msi_table_values.specs.Values.{is_null, value_cmp}
use Rattle.msi_table_values.specs.Columns.{ColumnDef}
use Rattle.msi_database_schema.specs.System.{columns_columns, columns_name}
use Rattle.msi_database_schema.specs.System.{tables_columns, tables_name}
use Rattle.msi_database_changes.specs.Database.{Database, has_table}
use Rattle.msi_database_changes.specs.Texts.{PoolInUse, cell_put, in_turn}
use Rattle.msi_database_storage.specs.Kept.{Kept}
use Rattle.msi_database_storage.specs.Streams.{Streams, with_stream}
use Rattle.msi_transform_records.specs.declared.action.Action.{Action}
use Rattle.msi_transform_records.specs.declared.action.Action.TheVariants.{Add, Remove, Change}
use Rattle.msi_transform_records.specs.declared.records.Record.{Record}
use Rattle.msi_transform_records.specs.declared.shape.Shape.{Shape}
use Rattle.msi_transform_records.specs.Records.{record_bytes, record_with}
use Rattle.msi_transform.specs.Transforms.{TransformDef, shapes_of}
use Rattle.msi_transform_rows.specs.RowStreams.{is_of_streams, row_stream}
use Rattle.msi_transform_rows.specs.KeyOfRows.{key_cmp}
use Rattle.msi_transform_applying.specs.Applying.{same_stream}
pub use Rattle.msi_transform_pair.specs.Pair.{Pair, Side, StopsBy, ToldRow, ToldRows, begin_alike, by_keys}
pub use Rattle.msi_transform_pair.specs.Pair.{columns_before, columns_in_table, described_columns, gains_columns}
pub use Rattle.msi_transform_pair.specs.Pair.{gone_streams, has_odd_columns, is_lacking, is_odd_table, is_row_gone}
pub use Rattle.msi_transform_pair.specs.Pair.{is_unfit, keeps_columns, lacks_text, lacks_text_of, loses_page}
pub use Rattle.msi_transform_pair.specs.Pair.{names_beside, needs_other_page, pair_of, reasons, same_row, shared_among}
pub use Rattle.msi_transform_pair.specs.Pair.{shares_stream, stream_of_row, stream_texts, streams_in, table_reasons}
pub use Rattle.msi_transform_pair.specs.Pair.{told_names, told_row, told_row_with, told_rows, told_stream, told_value}
pub use Rattle.msi_transform_pair.specs.Pair.{told_values, values_in_table}

-- WHAT DIFFERS

-- a value told once more; where both are streams, whether these are the same
abbrev pub same_value : Bool → Value × Value → Bool
same_value same (Binary, Binary) = same
same_value same (v, w) = eq_by_cmp value_cmp v w

-- the numbers of the columns in which two rows differ, from 0 on
abbrev pub differing_values : Bool → List Value → List Value → List ℕ
differing_values same old new = map (λ e. e.0) (filter (λ e. not (same_value same e.1))
    (enumerate_from 0 (zip old new)))

abbrev pub differing : ToldRow → ToldRow → List ℕ
differing old new = differing_values (same_stream old.stream new.stream) old.values new.values

-- a mask has bits for the columns 1 to 15 alone
abbrev pub has_bit_for : ℕ → Bool
has_bit_for i = nat_lt 0 i && nat_lt i 16

abbrev pub can_be_marked : List ℕ → Bool
can_be_marked columns = list_all has_bit_for columns

abbrev pub mask_for : List ℕ → ℕ
mask_for [] = 0
mask_for (column ∷ columns) = 2 ^ column + mask_for columns

-- RECORDS

-- a record by its values; its stream where it tells one
pub record ToldRecord : Type 0 where
  pub action : Action
  pub values : List Value
  pub key : List Value
  pub stream : Option (List ℕ)

abbrev pub removal : List Value → ToldRecord
removal key = record { action = Remove; values = key; key = key; stream = None }

abbrev pub addition : List Value × ToldRow → ToldRecord
addition e =
    record { action = Add (length e.1.values); values = e.1.values; key = e.0; stream = e.1.stream }

-- the values of the key and of the marked columns, in the table's order
abbrev pub is_marked : List ℕ → ℕ → ColumnDef → Bool
is_marked marked number column = column.is_primary_key || list_any (λ i. i == number) marked

abbrev pub is_marked_in : List ℕ → ℕ × (ColumnDef × Value) → Bool
is_marked_in marked e = is_marked marked e.0 e.1.0

abbrev pub marked_values : List ColumnDef → List ℕ → List Value → List (ColumnDef × Value)
marked_values columns marked values =
    map (λ e. e.1) (filter (is_marked_in marked) (enumerate_from 0 (zip columns values)))

abbrev pub is_stream : ColumnDef × Value → Bool
is_stream e = is_of_streams e.0.coltype && not (is_null e.1)

abbrev pub tells_stream : List (ColumnDef × Value) → Bool
tells_stream told = list_any is_stream told

abbrev pub changing : List ColumnDef → List ℕ → List Value × ToldRow → ToldRecord
changing columns marked new = let told = marked_values columns marked new.1.values in record {
  action = Change (mask_for marked);
  values = map (λ e. e.1) told;
  key = new.0;
  stream = if tells_stream told then new.1.stream else None;
}

-- a row that both have: nothing, a change, or where a column has no bit a removal and an addition
abbrev pub is_replaced : ToldRows → List Value × ToldRow → Bool
is_replaced others e = option_map_or (λ other. not (can_be_marked (differing other e.1)))
    (find key_cmp e.0 others) true

abbrev pub removals : ToldRows → ToldRows → List ToldRecord
removals old new = map (λ e. removal e.0) (filter (is_replaced new) old)

abbrev pub additions : ToldRows → ToldRows → List ToldRecord
additions old new = map addition (filter (is_replaced old) new)

abbrev pub change_of_row : List ColumnDef → ToldRows → List Value × ToldRow → Option ToldRecord
change_of_row columns old e = option_and_then (λ other. let marked = differing other e.1 in
    if can_be_marked marked && nat_lt 0 (length marked) then Some (changing columns marked e) else None)
    (find key_cmp e.0 old)

abbrev pub changes : List ColumnDef → ToldRows → ToldRows → List ToldRecord
changes columns old new = filter_map (change_of_row columns old) new

abbrev pub differences : List ColumnDef → ToldRows → ToldRows → List ToldRecord
differences columns old new = removals old new ++ changes columns old new ++ additions old new

-- A table that gets columns and has rows is told of, also where no row differs: its first row as if it did in the first
-- new column, since other programs misread the table without that
abbrev pub first_told : List ColumnDef → ℕ → ToldRows → List ToldRecord
first_told columns n [] = []
first_told columns n (e ∷ es) = if has_bit_for n then changing columns (n ∷ []) e ∷ []
    else removal e.0 ∷ addition e ∷ []

abbrev pub or_first_told : List ColumnDef → ℕ → ℕ → ToldRows → List ToldRecord → List ToldRecord
or_first_told columns before added rows told =
    if length told == 0 && nat_lt 0 added then first_told columns before rows else told

-- the records of a table that new has: old has it with so many of its columns, or not at all
abbrev pub records_beside : Kept → Kept → List ℕ → ℕ → List ToldRecord
records_beside old new name before =
    let columns = columns_in_table new name in
    let added = length columns - before in
    let rows = told_rows old name added in
    or_first_told columns before added rows (differences columns rows (told_rows new name 0))

abbrev pub records_of_table : Kept → Kept → List ℕ → List ToldRecord
records_of_table old new name = if has_table name old.database
    then records_beside old new name (columns_before old.database name)
    else map addition (told_rows new name 0)

-- the tables, and their columns
abbrev pub listing_record : Action → List ℕ → ToldRecord
listing_record action name = record { action = action; values = Str name ∷ []; key = Str name ∷ []; stream = None }

abbrev pub records_of_tables : Database → Database → List ToldRecord
records_of_tables old new = map (listing_record Remove) (names_beside old new)
    ++ map (listing_record (Add 1)) (names_beside new old)

abbrev pub with_number_if : Bool → List Value → List Value
with_number_if is_kept (table ∷ number ∷ others) = table ∷ (if is_kept then number else Null) ∷ others
with_number_if is_kept row = row

abbrev pub describing_record : Bool → List Value → ToldRecord
describing_record is_kept row = record {
  action = Add (length (with_number_if is_kept row));
  values = with_number_if is_kept row;
  key = take 2 row;
  stream = None;
}

abbrev pub records_of_columns : Kept → Kept → List ℕ → List ToldRecord
records_of_columns old new name = map (describing_record (has_table name old.database))
    (drop (columns_before old.database name) (described_columns new name))

-- each table's records in order: of the lists first, then of the tables of new
pub record ToldTable : Type 0 where
  pub name : List ℕ
  pub shapes : List Shape
  pub records : List ToldRecord

abbrev pub told_table : Kept → Kept → List ℕ → ToldTable
told_table old new name = record {
  name = name;
  shapes = shapes_of (columns_in_table new name);
  records = records_of_table old new name;
}

abbrev pub is_told : ToldTable → Bool
is_told t = nat_lt 0 (length t.records)

abbrev pub told_tables : Kept → Kept → List ToldTable
told_tables old new = filter is_told
    (record {
      name = tables_name;
      shapes = shapes_of tables_columns;
      records = records_of_tables old.database new.database;
    } ∷ record {
      name = columns_name;
      shapes = shapes_of columns_columns;
      records = flat_map (records_of_columns old new) (told_names new);
    } ∷ map (told_table old new) (told_names new))

-- THE TRANSFORM

-- the records with their texts in a pool, each text at the first place that takes it
-- A mask has 8 bits for how many cells an added row has: where it has more, there is no such record
abbrev pub stored_action : Action → Option Action
stored_action (Add k) = if nat_lt 255 k then None else Some (Add k)
stored_action Remove = Some Remove
stored_action (Change mask) = Some (Change mask)

abbrev pub stored_record_with : PoolInUse → List Value → Action → Option (Record × PoolInUse)
stored_record_with pool values action =
    option_map (λ s. (record_with action s.0, s.1)) (in_turn (cell_put true) pool values)

abbrev pub stored_record : PoolInUse → ToldRecord → Option (Record × PoolInUse)
stored_record pool r = option_and_then (stored_record_with pool r.values) (stored_action r.action)

abbrev pub stored_table : PoolInUse → ToldTable → Option ((ToldTable × List Record) × PoolInUse)
stored_table pool t = option_map (λ s. ((t, s.0), s.1)) (in_turn stored_record pool t.records)

abbrev pub stored_tables : List ToldTable → Option (List (ToldTable × List Record) × PoolInUse)
stored_tables tables = in_turn stored_table (record { places = []; is_used = false }) tables

abbrev pub table_records : Bool → ToldTable × List Record → List ℕ × List ℕ
table_records long e = (e.0.name, flat_map (record_bytes long e.0.shapes) e.1)

abbrev pub by_names : List (List ℕ × List ℕ) → List (List ℕ × List ℕ)
by_names [] = []
by_names (e ∷ es) = put list_cmp e.0 e.1 (by_names es)

-- the streams that records bring
abbrev pub with_told_stream : List ℕ → Streams → ToldRecord → Streams
with_told_stream table streams r = option_map_or
    (λ bytes. option_map_or (λ name. with_stream name bytes streams) (row_stream table r.key) streams) r.stream streams

abbrev pub with_told_streams : Streams → ToldTable → Streams
with_told_streams streams t = fold (with_told_stream t.name) streams t.records

-- a transform from one package to another, the ids of whose pages are given
abbrev pub transform_with : ℕ → Kept → List ToldTable → List (ToldTable × List Record) × PoolInUse → TransformDef
transform_with page_id new tables s = let long = is_long_with false s.1.places in record {
  page_id = page_id;
  pool = record { page = new.database.pool.page; long = long; places = s.1.places };
  tables = by_names (map (table_records long) s.0);
  streams = fold with_told_streams [] tables;
}

abbrev pub transform_of : ℕ → Kept → List ToldTable → Result TransformDef ErrorKind
transform_of page_id new tables =
    or_refused InvalidInput (stored_tables tables) >>= λ s. Ok (transform_with page_id new tables s)

abbrev pub made : Pair → Result TransformDef ErrorKind
made p = unless_refused (reasons p) (told_tables p.old p.new) >>= transform_of p.new_page p.new
