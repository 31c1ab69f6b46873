-- The cells of records, which are those of tables but for columns of streams: null stands there too.
use Rattle.std.specs.Prelude.{ℕ, ◌<◌, Bool, List, [], ◌∷◌, ⊤, Option, Some, None, ◌==◌, if◌then◌else◌}
use Rattle.msi_pool.specs.Pool.{Place, Pool}
use Rattle.msi_pool.specs.FirstFitLaws.{count_at}
use Rattle.msi_pool.specs.References.{number_of}
use Rattle.msi_base.specs.Numbers.{bytes_at}
use Rattle.msi_base.specs.Results.{◌>>=◌}
use Rattle.msi_table_values.specs.declared.column.ColumnType.{ColumnType}
use Rattle.msi_table_values.specs.declared.column.ColumnType.TheVariants as coltype
use Rattle.msi_table_cells.specs.declared.cell.ValueRef.{ValueRef}
use Rattle.msi_table_cells.specs.declared.cell.ValueRef.TheVariants as cell
use Rattle.msi_table_cells.specs.Fitting.{FitsColumn}
use Rattle.msi_table.specs.Cells.{cell_bytes, cell_in, stored_number, width}
use Rattle.msi_transform_records.specs.declared.shape.Shape.{Shape}

-- as in tables, and null in columns of streams
abbrev pub FitsCell : Bool → ColumnType → ValueRef → Type 0
FitsCell long coltype.Binary cell.Null = ⊤
FitsCell long type c = FitsColumn long type c

abbrev pub bytes_of_cell : Bool → ColumnType → ValueRef → List ℕ
bytes_of_cell long coltype.Binary cell.Null = 0 ∷ 0 ∷ []
bytes_of_cell long type c = cell_bytes long type c

-- the number whose bytes a cell takes
abbrev pub number_of_cell : ColumnType → ValueRef → ℕ
number_of_cell coltype.Binary cell.Null = 0
number_of_cell type c = stored_number type c

-- a cell that names a text names a place in use
abbrev pub NamesPlaceInUse : List Place → ValueRef → Type 0
NamesPlaceInUse places (cell.Str number) = 0 < count_at places number
NamesPlaceInUse places _ = ⊤

-- what a number says in a column of texts, and in one of streams
abbrev pub text_cell : List Place → ℕ → Option ValueRef
text_cell places number = if number == 0 then Some cell.Null
    else if count_at places number == 0 then None
    else Some (cell.Str number)

abbrev pub stream_cell : ℕ → Option ValueRef
stream_cell number = if number == 0 then Some cell.Null else if number == 1 then Some cell.Binary else None

-- the cell that bytes of its width spell, if any
abbrev pub cell_of_bytes : List Place → ColumnType → List ℕ → Option ValueRef
cell_of_bytes places coltype.Int16 bytes = Some (cell_in coltype.Int16 bytes)
cell_of_bytes places coltype.Int32 bytes = Some (cell_in coltype.Int32 bytes)
cell_of_bytes places (coltype.Str n) bytes = text_cell places (number_of bytes)
cell_of_bytes places coltype.Binary bytes = stream_cell (number_of bytes)

-- the cell of a column that stands in front, and the bytes after it
unfoldable pub cell_at : Pool → ColumnType → List ℕ → Option (ValueRef × List ℕ)
cell_at pool type bytes = do
  piece ← bytes_at (width pool.long type) bytes
  c ← cell_of_bytes pool.places type piece.0
  Some (c, piece.1)

-- the cells of columns in order, and the bytes after them
abbrev pub cells_at : Pool → List (ℕ × Shape) → List ℕ → Option (List ValueRef × List ℕ)
cells_at pool [] bytes = Some ([], bytes)
cells_at pool (column ∷ columns) bytes = do
  first ← cell_at pool column.1.coltype bytes
  others ← cells_at pool columns first.1
  Some (first.0 ∷ others.0, others.1)
