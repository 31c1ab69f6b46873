-- Streams of tables whose references to texts get three bytes.
use Rattle.std.specs.Prelude.{ℕ, true, List, length, Some, ◌==◌, if◌then◌else◌}
use Rattle.std.specs.List.{fold}
use Rattle.msi_table_values.specs.Columns.{types_of}
use Rattle.msi_table.specs.Cells.{table_bytes}
use Rattle.msi_table_cells.specs.TableCells.{TableCells}
use Rattle.msi_database_schema.specs.Keys.{table_key}
use Rattle.msi_database_schema.specs.System.{validation_columns, validation_name}
use Rattle.msi_database_changes.specs.Database.{Database, rows_of}
use Rattle.msi_database_storage.specs.Streams.{Streams, with_stream}

-- the rows of a table are spelled anew in the order that they have; without rows its stream stays
abbrev pub with_long_rows : Streams → List ℕ × TableCells → Streams
with_long_rows streams t = if length (rows_of t.1) == 0 then streams
    else with_stream (table_key t.0) (table_bytes true (types_of t.1.columns) (rows_of t.1)) streams

-- the stream of `_Validation` where that is no table
abbrev pub unlisted_table : Database → List ℕ × TableCells
unlisted_table d = (validation_name, record { columns = validation_columns; rows = Some d.unlisted_validation })

-- each table, listed or not; all other streams stay
abbrev pub streams_widened : Database → Streams → Streams
streams_widened d streams = with_long_rows (fold with_long_rows streams d.tables) (unlisted_table d)
