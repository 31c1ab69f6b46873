-- Rows in the order of their values at a place.
use Rattle.std.specs.Prelude.{ℕ, Bool, List, Option, Some, None, length, ◌++◌, ◌==◌, if◌then◌else◌, IsTrue}
use Rattle.std.specs.List.{AllByRecursion, list_all}
use Rattle.std.specs.Ordering.{is_eq}
use Rattle.std.specs.declared.cmp.Ordering.{Ordering}
use Rattle.msi_base.specs.Lists.{stable_sort}
use Rattle.msi_pool.specs.Pool.{Place}
use Rattle.msi_table_cells.specs.declared.cell.ValueRef.{ValueRef}
use Rattle.msi_table_values.specs.declared.value.Value.{Value}
use Rattle.msi_table_cells.specs.CellValues.{value_of_cell, row_values}
use Rattle.msi_table_values.specs.Columns.{ColumnDef}
use Rattle.msi_table_values.specs.Values.{value_cmp}
use Rattle.msi_query_expressions.specs.Conditions.{value_at_place}
use Rattle.msi_query_expressions.specs.Equated.{equated}
use Rattle.msi_query_expressions.specs.Expressions.{Expression}
use Rattle.msi_table.specs.Rows.{cell_at}

-- the value at a place of a row of cells, or null
abbrev pub value_there : List Place → ℕ → List ValueRef → Value
value_there places place row = value_of_cell places (cell_at row (Some place))

abbrev pub place_cmp : List Place → ℕ → List ValueRef → List ValueRef → Ordering
place_cmp places place row other = value_cmp (value_there places place row) (value_there places place other)

abbrev pub in_place_order : List Place → ℕ → List (List ValueRef) → List (List ValueRef)
in_place_order places place rows = stable_sort (place_cmp places place) rows

-- whether a row has a value at a place
abbrev pub has_value : List Place → ℕ → Value → List ValueRef → Bool
has_value places place value row = is_eq (value_cmp (value_there places place row) value)

abbrev pub has_width : ℕ → List (List ValueRef) → Bool
has_width n rows = list_all (λ row. length row == n) rows

-- the places by which pairs are looked up, where each left row has a cell for each of its columns
abbrev pub places_asked : List ColumnDef → ℕ → Expression → List (List ValueRef) → Option (ℕ × ℕ)
places_asked columns width on left = if has_width width left then equated columns width on else None

-- these rows and others that pass a test as a pair have equal values at two places
abbrev pub PassWithEqual : List Place → (List Value → Bool) → List (List ValueRef) → ℕ × ℕ → Type 0
PassWithEqual places test left at = AllByRecursion (λ row. (other : List Value)
    → IsTrue (test (row_values places row ++ other))
    → IsTrue (is_eq (value_cmp (value_at_place (row_values places row) at.0) (value_at_place other at.1)))) left
