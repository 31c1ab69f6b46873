-- The streams of tables: cells by their positions.
use Rattle.std.specs.Prelude.{◌≡◌, ℕ, ◌+◌, ◌*◌, ◌/◌, Bool, true, false, List, [], ◌∷◌, ◌++◌, map, length, take, drop}
use Rattle.std.specs.Prelude.{Option, Some, None}
use Rattle.std.specs.Prelude.{◌^◌, nat_le, ◌==◌, if◌then◌else◌, pos, ◌+ℤ◌, ◌-ℤ◌, sum, slice_get}
use Rattle.std.specs.Option as options
use Rattle.std.specs.List.{flat_map}
use Rattle.std.specs.Int.{w16, w32, to_le_bytes, bytes_low_first, cast_unsigned}
use Rattle.msi_base.specs.Lists.{tabulated}
use Rattle.msi_pool.specs.References.{reference_width, number_of}
use Rattle.msi_table_values.specs.declared.column.ColumnType.{ColumnType}
use Rattle.msi_table_values.specs.declared.column.ColumnType.TheVariants as coltype
use Rattle.msi_table_cells.specs.declared.cell.ValueRef.{ValueRef}
use Rattle.msi_table_cells.specs.declared.cell.ValueRef.TheVariants as cell
use Rattle.msi_table_cells.specs.Fitting.{cell_of}

abbrev pub width : Bool → ColumnType → ℕ
width long coltype.Int16 = 2
width long coltype.Int32 = 4
width long (coltype.Str n) = reference_width long
width long coltype.Binary = 2

abbrev pub is_for_texts : ColumnType → Bool
is_for_texts (coltype.Str n) = true
is_for_texts _ = false

-- 0 is null, else the number stands above the middle
abbrev pub cell_of_number : ℕ → ℕ → ValueRef
cell_of_number middle n = if n == 0 then cell.Null else cell.Int (pos n -ℤ pos middle)

-- the cell that bytes of its width spell
abbrev pub cell_in : ColumnType → List ℕ → ValueRef
cell_in coltype.Int16 bytes = cell_of_number (2 ^ 15) (number_of bytes)
cell_in coltype.Int32 bytes = cell_of_number (2 ^ 31) (number_of bytes)
cell_in (coltype.Str n) bytes = if number_of bytes == 0 then cell.Null else cell.Str (number_of bytes)
cell_in coltype.Binary bytes = cell.Binary

abbrev pub cell_bytes : Bool → ColumnType → ValueRef → List ℕ
cell_bytes long coltype.Int16 (cell.Int n) = to_le_bytes w16 (cast_unsigned w16 (n +ℤ pos (2 ^ 15)))
cell_bytes long coltype.Int32 (cell.Int n) = to_le_bytes w32 (cast_unsigned w32 (n +ℤ pos (2 ^ 31)))
cell_bytes long (coltype.Str n) (cell.Str number) = bytes_low_first 0 (reference_width long) number
cell_bytes long coltype.Binary _ = 1 ∷ 0 ∷ []
cell_bytes long type _ = bytes_low_first 0 (width long type) 0

-- the number whose bytes a cell takes
abbrev pub stored_number : ColumnType → ValueRef → ℕ
stored_number coltype.Int16 (cell.Int n) = cast_unsigned w16 (n +ℤ pos (2 ^ 15))
stored_number coltype.Int32 (cell.Int n) = cast_unsigned w32 (n +ℤ pos (2 ^ 31))
stored_number (coltype.Str k) (cell.Str number) = number
stored_number coltype.Binary _ = 1
stored_number type _ = 0

-- With these widths and n rows, cell (i, j) stands at n * (w[0] + .. + w[j-1]) + i * w[j]
abbrev pub widths : Bool → List ColumnType → List ℕ
widths long types = map (width long) types

abbrev pub row_count : Bool → List ColumnType → List ℕ → ℕ
row_count long types bytes = length bytes / sum (widths long types)

abbrev pub cell_place : Bool → List ColumnType → ℕ → ℕ → ColumnType → ℕ → ℕ
cell_place long types n j type i = n * sum (take j (widths long types)) + i * width long type

-- where the cells of each column begin, if there are n rows
abbrev pub AreStarts : Bool → List ColumnType → ℕ → List ℕ → Type 0
AreStarts long types n starts = starts ≡ tabulated (length types) (λ j. n * sum (take j (widths long types)))

abbrev pub cell_at : Bool → List ColumnType → List ℕ → ℕ → ℕ → ValueRef
cell_at long types bytes i j = options.option_map_or
    (λ type. cell_in type (take (width long type)
    (drop (cell_place long types (row_count long types bytes) j type i) bytes)))
    (slice_get types j) cell.Null

abbrev pub row_in : Bool → List ColumnType → List ℕ → ℕ → List ValueRef
row_in long types bytes i = tabulated (length types) (λ j. cell_at long types bytes i j)

-- the rows that the bytes spell; unreadable above 65536
abbrev pub rows_in : Bool → List ColumnType → List ℕ → Option (List (List ValueRef))
rows_in long types bytes = if nat_le (row_count long types bytes) 65536
    then Some (tabulated (row_count long types bytes) (row_in long types bytes))
    else None

-- how rows are spelled: each column's cells in a row
abbrev pub column_bytes : Bool → List (List ValueRef) → ℕ → List ColumnType → List ℕ
column_bytes long rows j [] = []
column_bytes long rows j (type ∷ types) = flat_map (λ row. cell_bytes long type (cell_of row j)) rows
    ++ column_bytes long rows (j + 1) types

abbrev pub table_bytes : Bool → List ColumnType → List (List ValueRef) → List ℕ
table_bytes long types rows = column_bytes long rows 0 types
