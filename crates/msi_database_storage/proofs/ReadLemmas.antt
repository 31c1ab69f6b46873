-- Rows that are read of bytes fit their columns.
use Rattle.std.proofs.Common.{◌≡◌, ℕ, ◌<◌, Bool, true, false, List, [], ◌∷◌, length, Option, Some, None, refl, arith}
use Rattle.std.specs.Prelude.{IfSome, All, unwrap_or, if◌then◌else◌}
use Rattle.std.specs.List.{AllByRecursion}
use Rattle.msi_container_format.specs.Names.{name_cmp}
use Rattle.msi_table_cells.specs.declared.cell.ValueRef.{ValueRef}
use Rattle.msi_table_values.specs.Columns.{ColumnDef, types_of}
use Rattle.msi_table.specs.Cells.{rows_in}
use Rattle.msi_table_cells.specs.Fitting.{FitsRow, FitsTable}
use Rattle.msi_database_schema.specs.Keys.{table_key}
use Rattle.msi_database_schema.specs.System.{validation_name, validation_columns}
use Rattle.msi_database_storage.specs.Streams.{Streams, stored_rows, stream_at}
use Rattle.msi_database_storage.specs.StreamNames.{HoldBytes}
use Rattle.msi_table.proofs.ReadRowsLemmas.{read_fits}
use Rattle.std.specs.Ordering.{eq_by_cmp}

-- bytes of a stream
bytes_found : (key : List ℕ) (s : List ℕ × List ℕ) (b : Bool) (others : Option (List ℕ)) → All (λ b. b < 256) s.1 → All (λ b. b < 256) (unwrap_or others []) → All (λ b. b < 256) (unwrap_or (if b then Some s.1 else others) [])
bytes_found key s true others here later = here
bytes_found key s false others here later = later

none_held : All (λ b. b < 256) []
none_held k d l = absurd (omega (arith, l))

pub bytes_held : (key : List ℕ) (streams : Streams) → HoldBytes streams → All (λ b. b < 256) (unwrap_or (stream_at key streams) [])
bytes_held key [] h = none_held
bytes_held key (s ∷ ss) h = bytes_found key s (eq_by_cmp name_cmp key s.0) (stream_at key ss) h.0 (bytes_held key ss h.1)

-- rows of a table that has a column
read_by : (long : Bool) (columns : List ColumnDef) (bytes : List ℕ) (o : Option (List (List ValueRef))) → rows_in long (types_of columns) bytes ≡ o → All (λ b. b < 256) bytes → 0 < length columns → IfSome o (FitsTable long (types_of columns))
read_by long columns bytes None e held some = tt
read_by long columns bytes (Some rows) e held some = (read_fits long columns bytes rows e).1 some held

pub rows_read_fit : (streams : Streams) (long : Bool) (columns : List ColumnDef) (name : List ℕ) → HoldBytes streams → 0 < length columns → IfSome (stored_rows streams long columns name) (FitsTable long (types_of columns))
rows_read_fit streams long columns name h some = read_by long columns (unwrap_or (stream_at (table_key name) streams) []) (stored_rows streams long columns name) refl (bytes_held (table_key name) streams h) some

-- the rows of the stream of `_Validation`
pub each_of : (long : Bool) (columns : List ColumnDef) (o : Option (List (List ValueRef))) → IfSome o (FitsTable long (types_of columns)) → IfSome o (AllByRecursion (FitsRow long (types_of columns)))
each_of long columns None h = tt
each_of long columns (Some rows) h = h.each_row

pub validation_read_fits : (streams : Streams) (long : Bool) → HoldBytes streams → IfSome (stored_rows streams long validation_columns validation_name) (AllByRecursion (FitsRow long (types_of validation_columns)))
validation_read_fits streams long h = each_of long validation_columns (stored_rows streams long validation_columns validation_name) (rows_read_fit streams long validation_columns validation_name h (omega arith))
