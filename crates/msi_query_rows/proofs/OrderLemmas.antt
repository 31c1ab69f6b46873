-- Rows in the order of their values in columns.
use Rattle.std.proofs.Common.{◌≡◌, ℕ, ◌+◌, ◌<◌, ◌≤◌, false, true, not, ◌==◌, List, [], ◌∷◌, length, map, drop, get_or, eqb, Option, Ordering, arith, refl, ap, sym, ◌∙◌}
use Rattle.std.proofs.lemmas.Bool.{eqb-true}
use Rattle.std.proofs.lemmas.List.{drop_all, drop_more}
use Rattle.std.proofs.lemmas.List.Sorted.{ranks_by}
use Rattle.std.specs.Cmp.{IsStrictWeakOrder}
use Rattle.std.specs.Cmp.Lexicographic.{slice_cmp, lists_total}
use Rattle.std.specs.Ordering.{is_lt, ordering_index, ordering_then}
use Rattle.std.specs.declared.cmp.Ordering.TheVariants.{Equal}
use Rattle.msi_base.specs.Lists.{placed, stable_sort}
use Rattle.msi_base.proofs.BoolLemmas.{by_test}
use Rattle.msi_pool.specs.Pool.{Place}
use Rattle.msi_table_cells.specs.declared.cell.ValueRef.{ValueRef}
use Rattle.msi_table_cells.specs.CellValues.{row_values, value_of_cell}
use Rattle.msi_table_cells.proofs.RowOrderLemmas.{a_tie, no_tie}
use Rattle.msi_table_values.specs.declared.value.Value.{Value}
use Rattle.msi_table_values.specs.Columns.{ColumnDef, column_index}
use Rattle.msi_table_values.specs.OrderLaws.{value_cmp-total}
use Rattle.msi_table_values.specs.Values.{value_cmp}
use Rattle.msi_table.specs.Rows.{cell_at}
use Rattle.msi_query.specs.Rows.{rows_values}
use Rattle.msi_query.specs.Selection.{in_order, order_cmp, projected_row}
use Rattle.msi_query.proofs.SelectionLemmas.{row_projected}
use Rattle.msi_query_rows.specs.Order.{values_at, values_at_cmp}

-- A stable sort by what a function gives
module _ {X Y : Type 0} (cmp : Y → Y → Ordering) (f : X → Y) where
  abbrev through : X → X → Ordering
  through x y = cmp (f x) (f y)

  map-placed : (x : X) (ys : List X) → map f (placed through x ys) ≡ placed cmp (f x) (map f ys)
  map-placed x [] = refl
  map-placed x (y ∷ ys) = by_test (is_lt (cmp (f y) (f x)))
      (λ t. rw t (ap (λ (zs : List Y). f y ∷ zs) (map-placed x ys)))
      (λ t. rw t refl)

  pub map-sorted : (xs : List X) → map f (stable_sort through xs) ≡ stable_sort cmp (map f xs)
  map-sorted [] = refl
  map-sorted (x ∷ xs) = map-placed x (stable_sort through xs) ∙ ap (placed cmp (f x)) (map-sorted xs)

pub order_cmp-weak : (columns : List ColumnDef) (names : List (List ℕ)) → IsStrictWeakOrder (λ x y. is_lt (order_cmp columns names x y))
order_cmp-weak columns names = ranks_by (lists_total value_cmp-total) (projected_row columns names)

pub values_at_cmp-weak : (places : List Place) (at : List (Option ℕ)) → IsStrictWeakOrder (λ x y. is_lt (values_at_cmp places at x y))
values_at_cmp-weak places at = ranks_by (lists_total value_cmp-total) (values_at places at)

-- COMPARED PLACE BY PLACE

one_place : (places : List Place) (at : List (Option ℕ)) (row other : List ValueRef) (i : ℕ) (d : Option ℕ) → i < length at
    → values_at_cmp places (drop i at) row other
    ≡ ordering_then (value_cmp (value_of_cell places (cell_at row (get_or at i d))) (value_of_cell places (cell_at other (get_or at i d)))) (values_at_cmp places (drop (i + 1) at) row other)
one_place places at row other i d h = ap (λ (rest : List (Option ℕ)). values_at_cmp places rest row other) (drop_more at i d h)

-- the first place where they differ
pub place_decides : (places : List Place) (at : List (Option ℕ)) (row other : List ValueRef) (i : ℕ) (d : Option ℕ) (a b : ValueRef) (o : Ordering) → i < length at
    → a ≡ cell_at row (get_or at i d) → b ≡ cell_at other (get_or at i d) → o ≡ value_cmp (value_of_cell places a) (value_of_cell places b)
    → not (eqb (ordering_index o) 1) ≡ true → values_at_cmp places (drop i at) row other ≡ o
place_decides places at row other i d a b o h e f is n =
    one_place places at row other i d h
    ∙ ap (λ (p : Ordering). ordering_then p (values_at_cmp places (drop (i + 1) at) row other))
    (sym (is ∙ ap (λ (x : ValueRef). value_cmp (value_of_cell places x) (value_of_cell places b)) e ∙ ap (λ (x : ValueRef). value_cmp (value_of_cell places (cell_at row (get_or at i d))) (value_of_cell places x)) f))
    ∙ no_tie o (values_at_cmp places (drop (i + 1) at) row other) n

-- one where they don't
pub place_ties : (places : List Place) (at : List (Option ℕ)) (row other : List ValueRef) (i : ℕ) (d : Option ℕ) (a b : ValueRef) (o : Ordering) → i < length at
    → a ≡ cell_at row (get_or at i d) → b ≡ cell_at other (get_or at i d) → o ≡ value_cmp (value_of_cell places a) (value_of_cell places b)
    → not (eqb (ordering_index o) 1) ≡ false → values_at_cmp places (drop i at) row other ≡ values_at_cmp places (drop (i + 1) at) row other
place_ties places at row other i d a b o h e f is n =
    one_place places at row other i d h
    ∙ ap (λ (p : Ordering). ordering_then p (values_at_cmp places (drop (i + 1) at) row other))
    (sym (is ∙ ap (λ (x : ValueRef). value_cmp (value_of_cell places x) (value_of_cell places b)) e ∙ ap (λ (x : ValueRef). value_cmp (value_of_cell places (cell_at row (get_or at i d))) (value_of_cell places x)) f))
    ∙ a_tie o (values_at_cmp places (drop (i + 1) at) row other) n

-- none is left
pub places_tie : (places : List Place) (at : List (Option ℕ)) (row other : List ValueRef) (i : ℕ) → length at ≤ i → values_at_cmp places (drop i at) row other ≡ Equal
places_tie places at row other i h = ap (λ (rest : List (Option ℕ)). values_at_cmp places rest row other) (drop_all i at h)

-- THE ORDER OF COLUMNS

-- cells at the places of columns are compared as the values in the columns
columns_cmp : (places : List Place) (columns : List ColumnDef) (names : List (List ℕ))
    → values_at_cmp places (map (λ n. column_index n columns) names) ≡ (λ row other. order_cmp columns names (row_values places row) (row_values places other))
columns_cmp places columns names = λ i row other. slice_cmp value_cmp (row_projected places columns names row i) (row_projected places columns names other i)

pub rows_ordered : (places : List Place) (columns : List ColumnDef) (names : List (List ℕ)) (at : List (Option ℕ)) (old new : List (List ValueRef))
    → at ≡ map (λ n. column_index n columns) names → new ≡ stable_sort (values_at_cmp places at) old → rows_values places new ≡ in_order columns names (rows_values places old)
rows_ordered places columns names at old new e s =
    ap (rows_values places) (s ∙ ap (λ (at : List (Option ℕ)). stable_sort (values_at_cmp places at) old) e
    ∙ ap (λ (cmp : List ValueRef → List ValueRef → Ordering). stable_sort cmp old) (columns_cmp places columns names))
    ∙ map-sorted (order_cmp columns names) (row_values places) old

stays_first : (columns : List ColumnDef) (row : List Value) (rows : List (List Value)) → row ∷ rows ≡ placed (order_cmp columns []) row rows
stays_first columns row [] = refl
stays_first columns row (r ∷ rows) = refl

no_order : (columns : List ColumnDef) (rows : List (List Value)) → rows ≡ in_order columns [] rows
no_order columns [] = refl
no_order columns (row ∷ rows) = stays_first columns row rows ∙ ap (placed (order_cmp columns []) row) (no_order columns rows)

-- without columns the rows stay as they are
pub unordered : (columns : List ColumnDef) (names : List (List ℕ)) (rows : List (List Value)) → (length names == 0) ≡ true → rows ≡ in_order columns names rows
unordered columns [] rows e = no_order columns rows
unordered columns (n ∷ ns) rows e = absurd (omega (arith, eqb-true (length (n ∷ ns)) 0 e))
