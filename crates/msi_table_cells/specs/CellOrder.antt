-- The order of cells.
use Rattle.std.specs.Prelude.{◌≡◌}
use Rattle.std.specs.Ordering.{int_cmp, nat_cmp}
use Rattle.std.specs.declared.cmp.Ordering.{Ordering}
use Rattle.std.specs.declared.cmp.Ordering.TheVariants.{Less, Equal, Greater}
use Rattle.std.specs.Cmp.{IsTotalOrder}
use Rattle.msi_table_cells.specs.declared.cell.ValueRef.{ValueRef}
use Rattle.msi_table_cells.specs.declared.cell.ValueRef.TheVariants as cell

-- Null, then numbers, then texts by their places, then Binary
abbrev pub cell_cmp : ValueRef → ValueRef → Ordering
cell_cmp cell.Null cell.Null = Equal
cell_cmp cell.Null _ = Less
cell_cmp _ cell.Null = Greater
cell_cmp (cell.Int m) (cell.Int n) = int_cmp m n
cell_cmp (cell.Int m) _ = Less
cell_cmp _ (cell.Int n) = Greater
cell_cmp (cell.Str s) (cell.Str t) = nat_cmp s t
cell_cmp (cell.Str s) _ = Less
cell_cmp _ (cell.Str t) = Greater
cell_cmp cell.Binary cell.Binary = Equal

-- no two cells tie but equal ones
abbrev pub CellsAreOrdered : Type 0
CellsAreOrdered = IsTotalOrder cell_cmp × ((c d : ValueRef) → cell_cmp c d ≡ Equal → c ≡ d)
