-- Cells are ordered, and only equal ones tie.
use Rattle.std.specs.Prelude.{◌≡◌, ℕ, ℤ, pos}
use Rattle.std.specs.declared.cmp.Ordering.{Ordering}
use Rattle.std.specs.declared.cmp.Ordering.TheVariants.{Equal}
use mathlib.Core.Path.{refl, ap, subst}
use Rattle.std.specs.Cmp.{IsTotalOrder, nat_cmp_total, int_cmp_total, on_total}
use Rattle.std.specs.Cmp.{then_total}
use Rattle.std.specs.Ordering.{nat_cmp, int_cmp, on, then_cmp}
use Rattle.msi_table_values.specs.OrderLaws.{greater_no_tie, ints_tie, less_no_tie, nats_tie, then_Equal}
use Rattle.msi_table_cells.specs.declared.cell.ValueRef.{ValueRef}
use Rattle.msi_table_cells.specs.declared.cell.ValueRef.TheVariants as cell
use Rattle.msi_table_cells.specs.CellOrder.{cell_cmp}

-- a cell by its kind, its number and its place
abbrev cell_kind : ValueRef → ℕ
cell_kind cell.Null = 0
cell_kind (cell.Int n) = 1
cell_kind (cell.Str s) = 2
cell_kind cell.Binary = 3

abbrev cell_number : ValueRef → ℤ
cell_number (cell.Int n) = n
cell_number _ = pos 0

abbrev cell_place : ValueRef → ℕ
cell_place (cell.Str s) = s
cell_place _ = 0

abbrev cells_by_parts : ValueRef → ValueRef → Ordering
cells_by_parts = then_cmp (on cell_kind nat_cmp) (then_cmp (on cell_number int_cmp) (on cell_place nat_cmp))

same_cell_order : (c d : ValueRef) → cells_by_parts c d ≡ cell_cmp c d
same_cell_order cell.Null cell.Null = refl
same_cell_order cell.Null (cell.Int n) = refl
same_cell_order cell.Null (cell.Str t) = refl
same_cell_order cell.Null cell.Binary = refl
same_cell_order (cell.Int m) cell.Null = refl
same_cell_order (cell.Int m) (cell.Int n) = then_Equal (int_cmp m n)
same_cell_order (cell.Int m) (cell.Str t) = refl
same_cell_order (cell.Int m) cell.Binary = refl
same_cell_order (cell.Str s) cell.Null = refl
same_cell_order (cell.Str s) (cell.Int n) = refl
same_cell_order (cell.Str s) (cell.Str t) = refl
same_cell_order (cell.Str s) cell.Binary = refl
same_cell_order cell.Binary cell.Null = refl
same_cell_order cell.Binary (cell.Int n) = refl
same_cell_order cell.Binary (cell.Str t) = refl
same_cell_order cell.Binary cell.Binary = refl

pub cell_cmp-total : IsTotalOrder cell_cmp
cell_cmp-total = subst IsTotalOrder (λ i c d. same_cell_order c d i) (then_total (on_total cell_kind nat_cmp_total)
    (then_total (on_total cell_number int_cmp_total) (on_total cell_place nat_cmp_total)))

pub cells_tie : (c d : ValueRef) → cell_cmp c d ≡ Equal → c ≡ d
cells_tie cell.Null cell.Null e = refl
cells_tie (cell.Int m) (cell.Int n) e = ap cell.Int (ints_tie m n e)
cells_tie (cell.Str s) (cell.Str t) e = ap cell.Str (nats_tie s t e)
cells_tie cell.Binary cell.Binary e = refl
cells_tie cell.Null (cell.Int n) e = less_no_tie e
cells_tie cell.Null (cell.Str t) e = less_no_tie e
cells_tie cell.Null cell.Binary e = less_no_tie e
cells_tie (cell.Int m) cell.Null e = greater_no_tie e
cells_tie (cell.Int m) (cell.Str t) e = less_no_tie e
cells_tie (cell.Int m) cell.Binary e = less_no_tie e
cells_tie (cell.Str s) cell.Null e = greater_no_tie e
cells_tie (cell.Str s) (cell.Int n) e = greater_no_tie e
cells_tie (cell.Str s) cell.Binary e = less_no_tie e
cells_tie cell.Binary cell.Null e = greater_no_tie e
cells_tie cell.Binary (cell.Int n) e = greater_no_tie e
cells_tie cell.Binary (cell.Str t) e = greater_no_tie e
