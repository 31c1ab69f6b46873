-- Rows of cells in the order of their values at places.
use Rattle.std.specs.Prelude.{ℕ, List, Option}
use Rattle.std.specs.Cmp.Lexicographic.{slice_cmp}
use Rattle.std.specs.declared.cmp.Ordering.{Ordering}
use Rattle.msi_pool.specs.Pool.{Place}
use Rattle.msi_table_cells.specs.declared.cell.ValueRef.{ValueRef}
use Rattle.msi_table_cells.specs.CellValues.{row_values}
use Rattle.msi_table_values.specs.declared.value.Value.{Value}
use Rattle.msi_table_values.specs.Values.{value_cmp}
use Rattle.msi_table.specs.Rows.{cells_at}

-- the values at places of a row of cells, null where it has no such cell
abbrev pub values_at : List Place → List (Option ℕ) → List ValueRef → List Value
values_at places at row = row_values places (cells_at at row)

-- the first value that differs decides
abbrev pub values_at_cmp : List Place → List (Option ℕ) → List ValueRef → List ValueRef → Ordering
values_at_cmp places at row other = slice_cmp value_cmp (values_at places at row) (values_at places at other)
