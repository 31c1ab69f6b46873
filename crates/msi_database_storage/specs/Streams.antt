-- Streams of a container by the units of their names, and the streams of tables among them.
use Rattle.std.specs.Prelude.{ℕ, Bool, not, List, [], filter, length, Option, Some, None, is_some, unwrap_or, ◌==◌}
use Rattle.std.specs.Prelude.{if◌then◌else◌}
use Rattle.std.specs.List.{fold}
use Rattle.std.specs.FinMap.{find, put}
use Rattle.std.specs.Ordering.{eq_by_cmp}
use Rattle.msi_container_format.specs.Names.{name_cmp}
use Rattle.msi_table_cells.specs.declared.cell.ValueRef.{ValueRef}
use Rattle.msi_table_values.specs.Columns.{ColumnDef, types_of}
use Rattle.msi_table.specs.Cells.{rows_in, table_bytes}
use Rattle.msi_table.specs.Tables.{stored_bytes}
use Rattle.msi_table_cells.specs.TableCells.{TableCells}
use Rattle.msi_database_schema.specs.Keys.{table_key}
use Rattle.msi_database_changes.specs.Database.{Database, table_at, rows_of}

-- in the container's order
abbrev pub Streams : Type 0
Streams = List (List ℕ × List ℕ)

abbrev pub stream_at : List ℕ → Streams → Option (List ℕ)
stream_at name streams = find name_cmp name streams

abbrev pub has_stream_at : List ℕ → Streams → Bool
has_stream_at name streams = is_some (stream_at name streams)

abbrev pub with_stream : List ℕ → List ℕ → Streams → Streams
with_stream name bytes streams = put name_cmp name bytes streams

abbrev pub without_stream : List ℕ → Streams → Streams
without_stream name streams = filter (λ s. not (eq_by_cmp name_cmp name s.0)) streams

-- these bytes at a name, or no stream there
abbrev pub with_stream_or_none : List ℕ → Option (List ℕ) → Streams → Streams
with_stream_or_none name None streams = without_stream name streams
with_stream_or_none name (Some bytes) streams = with_stream name bytes streams

-- the rows that a table's stream spells; a missing stream has none
abbrev pub stored_rows : Streams → Bool → List ColumnDef → List ℕ → Option (List (List ValueRef))
stored_rows streams long columns name = rows_in long (types_of columns)
    (unwrap_or (stream_at (table_key name) streams) [])

-- the stream of a table: one without rows, and one that is gone, has none
abbrev pub table_stream : Bool → Option TableCells → Option (List ℕ)
table_stream long None = None
table_stream long (Some t) = if length (rows_of t) == 0 then None
    else Some (table_bytes long (types_of t.columns) (rows_of t))

-- the same of rows that are still to be given their stored order
abbrev pub stream_of_rows : Bool → List ColumnDef → List (List ValueRef) → Option (List ℕ)
stream_of_rows long columns rows = if length rows == 0 then None else Some (stored_bytes long columns rows)

-- a table that is stored anew, and several in turn
abbrev pub stored_stream : Bool → List ℕ → Option TableCells → Streams → Streams
stored_stream long name t streams = with_stream_or_none (table_key name) (table_stream long t) streams

abbrev pub stored_streams : Database → List (List ℕ) → Streams → Streams
stored_streams d names streams = fold
    (λ streams name. stored_stream d.pool.long name (table_at name d) streams) streams names
