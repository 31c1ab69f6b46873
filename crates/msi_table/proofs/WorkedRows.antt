-- Worked examples, by computation.
use Rattle.std.specs.Prelude.{◌≡◌, true, false, List, [], ◌∷◌, Some, refl, codes, map, pos, negsuc}
use Rattle.msi_table_values.specs.declared.column.ColumnType.{ColumnType}
use Rattle.msi_table_values.specs.declared.column.ColumnType.TheVariants as coltype
use Rattle.msi_table_cells.specs.declared.cell.ValueRef.{ValueRef}
use Rattle.msi_table_cells.specs.declared.cell.ValueRef.TheVariants as cell
use Rattle.msi_table_values.specs.Columns.{ColumnDef}
use Rattle.msi_table_values.proofs.WorkedRows.{plain, number, word}
use Rattle.msi_table.specs.Cells.{cell_bytes, cell_in, table_bytes, rows_in}
use Rattle.msi_table_cells.specs.StoredOrder.{in_stored_order}

int16_cells : map (cell_bytes false coltype.Int16) (cell.Int (negsuc 32766) ∷ cell.Int (pos 32767) ∷ cell.Int (negsuc 0) ∷ cell.Null ∷ [])
    ≡ (1 ∷ 0 ∷ []) ∷ (0xFF ∷ 0xFF ∷ []) ∷ (0xFF ∷ 0x7F ∷ []) ∷ (0 ∷ 0 ∷ []) ∷ []
int16_cells = refl

int32_cell : cell_bytes false coltype.Int32 (cell.Int (negsuc 0)) ≡ 0xFF ∷ 0xFF ∷ 0xFF ∷ 0x7F ∷ []
int32_cell = refl

int16_back : map (cell_in coltype.Int16) ((1 ∷ 0 ∷ []) ∷ (0xFF ∷ 0xFF ∷ []) ∷ (0xFF ∷ 0x7F ∷ []) ∷ (0 ∷ 0 ∷ []) ∷ []) ≡ cell.Int (negsuc 32766) ∷ cell.Int (pos 32767) ∷ cell.Int (negsuc 0) ∷ cell.Null ∷ []
int16_back = refl

abbrev three_types : List ColumnType
three_types = coltype.Binary ∷ coltype.Int16 ∷ coltype.Int32 ∷ []

abbrev three_rows : List (List ValueRef)
three_rows = (cell.Binary ∷ cell.Int (pos 32767) ∷ cell.Int (pos 0) ∷ []) ∷ (cell.Binary ∷ cell.Int (pos 20) ∷ cell.Int (pos 10) ∷ []) ∷ (cell.Binary ∷ cell.Int (pos 30) ∷ cell.Int (pos 20) ∷ []) ∷ []

abbrev three_defs : List ColumnDef
three_defs = map (plain (codes "c")) three_types

-- the rows in stored order, spelled
three_bytes : table_bytes false three_types (in_stored_order three_defs three_rows)
    ≡ 1 ∷ 0 ∷ 1 ∷ 0 ∷ 1 ∷ 0 ∷ 0x14 ∷ 0x80 ∷ 0x1E ∷ 0x80 ∷ 0xFF ∷ 0xFF ∷ 0x0A ∷ 0 ∷ 0 ∷ 0x80 ∷ 0x14 ∷ 0 ∷ 0 ∷ 0x80 ∷ 0 ∷ 0 ∷ 0 ∷ 0x80 ∷ []
three_bytes = refl

three_back : rows_in false three_types (table_bytes false three_types (in_stored_order three_defs three_rows)) ≡ Some (in_stored_order three_defs three_rows)
three_back = refl

-- a byte past the last whole row is ignored
stray : rows_in false (coltype.Int16 ∷ []) (1 ∷ 0x80 ∷ 7 ∷ []) ≡ Some ((cell.Int (pos 1) ∷ []) ∷ [])
stray = refl

numbers_bytes : table_bytes false (coltype.Int16 ∷ coltype.Str 50 ∷ []) (in_stored_order (number ∷ word ∷ [])
    ((cell.Int (pos 2) ∷ cell.Str 21 ∷ []) ∷ (cell.Int (pos 4) ∷ cell.Str 22 ∷ []) ∷ (cell.Int (pos 1) ∷ cell.Str 23 ∷ []) ∷ []))
    ≡ 1 ∷ 0x80 ∷ 2 ∷ 0x80 ∷ 4 ∷ 0x80 ∷ 0x17 ∷ 0 ∷ 0x15 ∷ 0 ∷ 0x16 ∷ 0 ∷ []
numbers_bytes = refl

long_reference : cell_bytes true (coltype.Str 50) (cell.Str 65541) ≡ 5 ∷ 0 ∷ 1 ∷ []
long_reference = refl
