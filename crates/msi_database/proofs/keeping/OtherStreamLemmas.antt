-- A database goes on to be kept, and stays the same, where a stream that is no table's is put or removed.
use Rattle.std.proofs.Common.{◌≡◌, ◌≢◌, ℕ, Bool, true, false, List, [], ◌∷◌, length, map, Option, Some, refl, sym, ap, subst, ◌∙◌}
use Rattle.std.specs.Prelude.{unwrap_or, is_some, if◌then◌else◌, option_map, option_and_then}
use Rattle.std.specs.List.{AllByRecursion}
use Rattle.std.specs.FinMap.{contains_key, entries, get, get-entries}
use Rattle.msi_pool.specs.Pool.{Pool}
use Rattle.msi_container_format.specs.Names.{is_name_length}
use Rattle.msi_container_format.specs.Streams as maps
use Rattle.msi_table.specs.Cells.{rows_in}
use Rattle.msi_table_cells.specs.CellValues.{row_values}
use Rattle.msi_table_values.specs.Columns.{ColumnDef, types_of}
use Rattle.msi_table.specs.Tables.{TableDef}
use Rattle.msi_database_schema.specs.Keys.{table_key}
use Rattle.msi_database_schema.specs.Schema.{schema_of}
use Rattle.msi_database_schema.specs.System.{columns_columns, columns_name, tables_columns, tables_name, validation_columns, validation_name}
use Rattle.msi_database_changes.specs.Database.{Database, is_sound}
use Rattle.msi_database_storage.specs.Kept.{Kept, database_kept, kept_of, schema_listed, table_kept, table_kept_at}
use Rattle.msi_database_storage.specs.Streams.{Streams, has_stream_at, stored_rows, stream_at, with_stream_or_none}
use Rattle.msi_database_storage.specs.Agreement.{schema_in}
use Rattle.msi_database.specs.Keeping.{AreKept, RowsFit, UnlistedFits}
use Rattle.msi_database.specs.Others.{IsOther, with_streams}
use Rattle.msi_database.proofs.keeping.StreamEntriesLemmas.{entries_either}
use Rattle.msi_database.proofs.keeping.KeptPartsLemmas.{parts_spelled, schema_kept}
use Rattle.msi_database_storage.proofs.StreamLemmas.{AreSorted, names_put, sorted_put, sorted_removed, stream_at_other_put, stream_at_other_removed, with_or_none_either}

module _ (streams : Streams) (name : List ℕ) (o : Option (List ℕ)) where
  abbrev after : Streams
  after = with_stream_or_none name o streams

  other_stays : (key : List ℕ) → key ≢ name → stream_at key after ≡ stream_at key streams
  other_stays key apart = with_or_none_either (λ (s : Streams). stream_at key s ≡ stream_at key streams) name o streams
      (λ bytes. stream_at_other_put key name bytes streams apart) (stream_at_other_removed key name streams apart)

  rows_stay : (long : Bool) (columns : List ColumnDef) (table : List ℕ) → name ≢ table_key table
      → stored_rows after long columns table ≡ stored_rows streams long columns table
  rows_stay long columns table apart = ap (λ (b : Option (List ℕ)). rows_in long (types_of columns) (unwrap_or b []))
      (other_stays (table_key table) (λ e. apart (sym e)))

  tables_stay : (long wide : Bool) (tables : List TableDef)
      → AllByRecursion (λ table. name ≢ table_key table) (map (λ t. t.0) (map (table_kept streams wide) tables))
      → map (table_kept after long) tables ≡ map (table_kept streams long) tables
  tables_stay long wide [] apart = refl
  tables_stay long wide (t ∷ ts) apart = λ i.
      (t.name, record { columns = t.columns; rows = rows_stay long t.columns t.name apart.0 i }) ∷ tables_stay long wide ts apart.1 i

  module _ (pool : Pool) (tables : List TableDef) (other : IsOther (database_kept pool tables streams) name) where
    pub database_stays : database_kept pool tables after ≡ database_kept pool tables streams
    database_stays = λ i. record {
      pool = pool;
      tables = tables_stay pool.long pool.long tables other.1.1.1 i;
      unlisted_validation = if is_some (table_kept_at validation_name tables) then []
          else unwrap_or (rows_stay pool.long validation_columns validation_name other.0 i) [];
    }

    schema_stays : schema_in after pool ≡ schema_in streams pool
    schema_stays = λ i. option_and_then schema_of (
        option_and_then (λ ts. option_and_then (λ cs. option_map (λ vs. record { tables = ts; columns = cs; validation = vs })
        (option_map (map (row_values pool.places)) (rows_stay pool.long validation_columns validation_name other.0 i)))
        (option_map (map (row_values pool.places)) (rows_stay pool.long columns_columns columns_name other.1.0 i)))
        (option_map (map (row_values pool.places)) (rows_stay pool.long tables_columns tables_name other.1.1.0 i)))

    pub still_kept : (known : Bool) → is_name_length (length name) ≡ true → AreKept pool tables streams known → AreKept pool tables after known
    still_kept known named h =
        let k = h.kept in
        let same = database_stays in
        let described : schema_in streams pool ≡ Some (schema_listed tables) = k.spelled.schema ∙ ap Some (schema_kept pool tables streams) in
        record {
          kept = record {
            in_order = with_or_none_either AreSorted name o streams (λ bytes. sorted_put name bytes streams k.in_order) (sorted_removed name streams k.in_order);
            names = names_put (λ n. is_name_length (length n) ≡ true) name o streams named k.names;
            spelled = parts_spelled pool tables after (schema_stays ∙ described);
            rows = subst (λ (d : Database). RowsFit d) (sym same) k.rows;
            unlisted = subst (λ (d : Database). UnlistedFits d) (sym same) k.unlisted;
            few = k.few;
            counts = k.counts;
            freed = λ sound. k.freed (ap is_sound (sym same) ∙ sound);
          };
          as_long = h.as_long;
          known = h.known ∙ ap is_sound (sym same);
        }

-- THE SAME OF MAPS OF STREAMS

-- the streams are these, and all else is as it was
pub record Stays (pool : Pool) (tables : List TableDef) (streams : Streams) (known : Bool) (k : Kept) : Type 0 where
  pub kept : AreKept pool tables streams known
  pub same : kept_of pool tables streams ≡ k

module _ (pool : Pool) (tables : List TableDef) (m : maps.Streams) (known : Bool) (k : Kept) (view : kept_of pool tables (entries m) ≡ k) where
  pub stays : (n : maps.Streams) (name : List ℕ) (o : Option (List ℕ)) → AreKept pool tables (entries m) known → IsOther k.database name
      → is_name_length (length name) ≡ true → n ≡ maps.with_or_without m name o
      → Stays pool tables (entries n) known (with_streams (with_stream_or_none name o) k)
  stays n name o h other named stored =
      let own : IsOther (database_kept pool tables (entries m)) name = subst (λ (k : Kept). IsOther k.database name) (sym view) other in
      let now : entries n ≡ with_stream_or_none name o (entries m) = ap entries stored ∙ entries_either m name o in
      record {
        kept = subst (λ (s : Streams). AreKept pool tables s known) (sym now) (still_kept (entries m) name o pool tables own known named h);
        same = ap (kept_of pool tables) now
            ∙ (λ i. record { database = database_stays (entries m) name o pool tables own i; streams = with_stream_or_none name o (entries m) })
            ∙ ap (with_streams (with_stream_or_none name o)) view;
      }

  pub held_before : (name : List ℕ) (held : Option (List ℕ)) → held ≡ get m name → held ≡ stream_at name k.streams
  held_before name held is = is ∙ get-entries m name ∙ ap (λ (k : Kept). stream_at name k.streams) view

  pub absent_before : (name : List ℕ) → contains_key m name ≡ false → has_stream_at name k.streams ≡ false
  absent_before name absent = ap is_some (sym (get-entries m name ∙ ap (λ (k : Kept). stream_at name k.streams) view)) ∙ absent

  pub there_before : (name : List ℕ) → has_stream_at name k.streams ≡ true → contains_key m name ≡ true
  there_before name there = ap is_some (get-entries m name ∙ ap (λ (k : Kept). stream_at name k.streams) view) ∙ there

pub there_after : (n : maps.Streams) (name : List ℕ) → contains_key n name ≡ true → has_stream_at name (entries n) ≡ true
there_after n name there = ap is_some (sym (get-entries n name)) ∙ there
