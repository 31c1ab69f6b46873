-- Which cells a column can store, and which rows a table.
use Rattle.std.specs.Prelude.{ℕ, ◌<◌, ◌≤◌, ◌^◌, Bool, List, [], ◌∷◌, length, ⊤, pos, neg_ℤ, ◌≤ℤ◌, if◌then◌else◌}
use Rattle.std.specs.Prelude.{slice_get, unwrap_or}
use Rattle.std.specs.List.{AllByRecursion}
use Rattle.msi_table_values.specs.declared.column.ColumnType.{ColumnType}
use Rattle.msi_table_values.specs.declared.column.ColumnType.TheVariants as coltype
use Rattle.msi_table_cells.specs.declared.cell.ValueRef.{ValueRef}
use Rattle.msi_table_cells.specs.declared.cell.ValueRef.TheVariants as cell
use Rattle.msi_table_values.specs.Columns.{greatest_16, greatest_32}

abbrev pub reference_bound : Bool → ℕ
reference_bound long = if long then 2 ^ 24 else 2 ^ 16

-- null in all columns but Binary; a number of the type, but the least; a reference of the width; Binary in Binary
abbrev pub FitsColumn : Bool → ColumnType → ValueRef → Type 0
FitsColumn long coltype.Int16 cell.Null = ⊤
FitsColumn long coltype.Int16 (cell.Int n) = (neg_ℤ (pos greatest_16) ≤ℤ n) × (n ≤ℤ pos greatest_16)
FitsColumn long coltype.Int32 cell.Null = ⊤
FitsColumn long coltype.Int32 (cell.Int n) = (neg_ℤ (pos greatest_32) ≤ℤ n) × (n ≤ℤ pos greatest_32)
FitsColumn long (coltype.Str n) cell.Null = ⊤
FitsColumn long (coltype.Str n) (cell.Str number) = (0 < number) × (number < reference_bound long)
FitsColumn long coltype.Binary cell.Binary = ⊤
FitsColumn long type _ = ⊥

-- the cell of a column, null where the row has none
abbrev pub cell_of : List ValueRef → ℕ → ValueRef
cell_of row j = unwrap_or (slice_get row j) cell.Null

-- a cell for each column, which fits it
abbrev pub FitsRow : Bool → List ColumnType → List ValueRef → Type 0
FitsRow long [] [] = ⊤
FitsRow long (type ∷ types) (c ∷ cs) = FitsColumn long type c × FitsRow long types cs
FitsRow long _ _ = ⊥

-- what a table needs in order to read back
pub record FitsTable (long : Bool) (types : List ColumnType) (rows : List (List ValueRef)) : Type 0 where
  pub some_column : 0 < length types
  pub few_rows : length rows ≤ 65536
  pub each_row : AllByRecursion (FitsRow long types) rows
