-- The order in which rows are stored.
use Rattle.std.specs.Prelude.{Bool, not, if◌then◌else◌, List, [], ◌∷◌}
use Rattle.std.specs.declared.cmp.Ordering.{Ordering}
use Rattle.std.specs.Cmp.Lexicographic.{slice_cmp}
use Rattle.msi_base.specs.Lists.{stable_sort}
use Rattle.msi_table_cells.specs.declared.cell.ValueRef.{ValueRef}
use Rattle.msi_table_cells.specs.CellOrder.{cell_cmp}
use Rattle.msi_table_values.specs.Columns.{ColumnDef, is_of_category_binary}

-- the cells beside the columns that a test takes
abbrev pub parts_where : {X : Type 0} → (ColumnDef → Bool) → List ColumnDef → List X → List X
parts_where test [] xs = []
parts_where test (c ∷ cs) [] = []
parts_where test (c ∷ cs) (x ∷ xs) = if test c then x ∷ parts_where test cs xs else parts_where test cs xs

abbrev pub ordering_cells : List ColumnDef → List ValueRef → List ValueRef
ordering_cells columns row = parts_where (λ c. not (is_of_category_binary c.category)) columns row

-- the first cell that differs decides, skipping columns of category Binary
abbrev pub row_cmp : List ColumnDef → List ValueRef → List ValueRef → Ordering
row_cmp columns row other = slice_cmp cell_cmp (ordering_cells columns row) (ordering_cells columns other)

abbrev pub in_stored_order : List ColumnDef → List (List ValueRef) → List (List ValueRef)
in_stored_order columns rows = stable_sort (row_cmp columns) rows
