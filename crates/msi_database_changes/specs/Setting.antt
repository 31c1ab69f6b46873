-- New values in a row, where its values are seen and where its cells are.
use Rattle.std.specs.Prelude.{ℕ, Bool, List, [], ◌∷◌, Option, Some, option_map, option_and_then, unwrap_or, set}
use Rattle.std.specs.List.{fold}
use Rattle.msi_table_values.specs.declared.value.Value.{Value}
use Rattle.msi_table_cells.specs.declared.cell.ValueRef.{ValueRef}
use Rattle.msi_table_values.specs.Columns.{ColumnDef, column_index}
use Rattle.msi_table_cells.specs.Fitting.{cell_of}
use Rattle.msi_database_changes.specs.Texts.{PoolInUse, cell_put, cell_released}

-- where the column of a set stands, which is its name and its new value
abbrev pub index_of : List ColumnDef → List ℕ × Value → ℕ
index_of columns s = unwrap_or (column_index s.0 columns) 0

-- the sets in order, so that the last set of a column wins
abbrev pub values_set : List ColumnDef → List (List ℕ × Value) → List Value → List Value
values_set columns sets row = fold (λ row s. set row (index_of columns s) s.1) row sets

-- a row with one cell exchanged for a value: the old text is given back, and then the new one taken
abbrev pub cell_exchanged : Bool → PoolInUse → List ValueRef → ℕ → Value → Option (List ValueRef × PoolInUse)
cell_exchanged long pool row place value = option_map (λ (r : ValueRef × PoolInUse). (set row place r.0, r.1))
    (cell_put long (cell_released pool (cell_of row place)) value)

-- per set, the old text is given back and then the new one taken
abbrev pub cells_set : Bool → List ColumnDef → PoolInUse → List ValueRef
    → List (List ℕ × Value) → Option (List ValueRef × PoolInUse)
cells_set long columns pool row [] = Some (row, pool)
cells_set long columns pool row (s ∷ ss) =
    option_and_then (λ r. cells_set long columns r.1 (set row (index_of columns s) r.0) ss)
    (cell_put long (cell_released pool (cell_of row (index_of columns s))) s.1)
