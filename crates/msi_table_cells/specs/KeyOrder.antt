-- Keys of rows, and the order of rows by their keys.
use Rattle.std.specs.Prelude.{Bool, List}
use Rattle.std.specs.Ordering.{is_eq}
use Rattle.std.specs.declared.cmp.Ordering.{Ordering}
use Rattle.std.specs.Cmp.Lexicographic.{slice_cmp}
use Rattle.msi_base.specs.Lists.{stable_sort}
use Rattle.msi_pool.specs.Pool.{Place}
use Rattle.msi_table_cells.specs.declared.cell.ValueRef.{ValueRef}
use Rattle.msi_table_values.specs.declared.value.Value.{Value}
use Rattle.msi_table_values.specs.Values.{value_cmp}
use Rattle.msi_table_values.specs.Columns.{ColumnDef}
use Rattle.msi_table_cells.specs.StoredOrder.{parts_where}
use Rattle.msi_table_cells.specs.CellValues.{row_values}

-- the values of a row's key columns
abbrev pub key_of : List ColumnDef → List Value → List Value
key_of columns row = parts_where (λ c. c.is_primary_key) columns row

-- keys are compared as values
abbrev pub same_key : List Value → List Value → Bool
same_key k l = is_eq (slice_cmp value_cmp k l)

-- the first key value that differs decides
abbrev pub key_cmp : List ColumnDef → List Place → List ValueRef → List ValueRef → Ordering
key_cmp columns places row other = slice_cmp value_cmp
    (key_of columns (row_values places row)) (key_of columns (row_values places other))

-- an insert gives its rows this order first
abbrev pub in_key_order : List ColumnDef → List Place → List (List ValueRef) → List (List ValueRef)
in_key_order columns places rows = stable_sort (key_cmp columns places) rows
