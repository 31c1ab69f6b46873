-- The order of rows, cell by cell.
use Rattle.std.proofs.Common.{◌≡◌, ℕ, ◌+◌, ◌<◌, ◌≤◌, Bool, true, false, List, [], ◌∷◌, length, drop, refl, sym, ap, ◌∙◌, arith, Ordering, eqb, ⊎_elim}
use Rattle.std.specs.Prelude.{slice_index_or, not, option_map}
use Rattle.std.specs.List.{slice_get}
use Rattle.std.specs.Option.{option_cmp}
use Rattle.std.specs.declared.cmp.Ordering.TheVariants.{Less, Equal, Greater}
use Rattle.std.specs.Ordering.{ordering_index, is_lt, ordering_then}
use Rattle.std.specs.Cmp.{IsStrictWeakOrder}
use Rattle.std.specs.Cmp.Lexicographic.{slice_cmp, lists_total}
use Rattle.std.proofs.lemmas.List as lists
use Rattle.std.proofs.lemmas.List.Sorted.{ranks_by}
use Rattle.std.proofs.lemmas.Option.{slice_get_cases, slice_get-map}
use Rattle.msi_pool.specs.Pool.{Place}
use Rattle.msi_table_values.specs.Columns.{ColumnDef, is_of_category_binary}
use Rattle.msi_table_values.specs.OrderLaws.{value_cmp-total}
use Rattle.msi_table_cells.specs.CellOrderLaws.{cell_cmp-total}
use Rattle.msi_table_cells.specs.declared.cell.ValueRef.{ValueRef}
use Rattle.msi_table_cells.specs.CellValues.{value_of_cell, row_values}
use Rattle.msi_table_values.specs.Values.{value_cmp}
use Rattle.msi_table_cells.specs.StoredOrder.{parts_where, ordering_cells, row_cmp}
use Rattle.msi_table_cells.specs.CellOrder.{cell_cmp}
use Rattle.msi_table_cells.specs.KeyOrder.{key_of, key_cmp}

-- both orders compare the parts of rows as lists
pub row_cmp-weak : (columns : List ColumnDef) → IsStrictWeakOrder (λ x y. is_lt (row_cmp columns x y))
row_cmp-weak columns = ranks_by (lists_total cell_cmp-total) (ordering_cells columns)

pub key_cmp-weak : (columns : List ColumnDef) (places : List Place) → IsStrictWeakOrder (λ x y. is_lt (key_cmp columns places x y))
key_cmp-weak columns places = ranks_by (lists_total value_cmp-total) (λ row. key_of columns (row_values places row))

nothing_left : {X : Type 0} (test : ColumnDef → Bool) (cs : List ColumnDef) → parts_where {X = X} test cs [] ≡ []
nothing_left test [] = refl
nothing_left test (c ∷ cs) = refl

-- what a comparison says of the rest
pub no_tie : (o rest : Ordering) → not (eqb (ordering_index o) 1) ≡ true → ordering_then o rest ≡ o
no_tie Less rest e = refl
no_tie Equal rest e = cc
no_tie Greater rest e = refl

pub a_tie : (o rest : Ordering) → not (eqb (ordering_index o) 1) ≡ false → ordering_then o rest ≡ rest
a_tie Less rest e = cc
a_tie Equal rest e = refl
a_tie Greater rest e = cc

module _ {X : Type 0} (cmp : X → X → Ordering) (test : ColumnDef → Bool) where
  -- the parts of a row from a column on, for the columns that pass
  abbrev pub parts_from : List ColumnDef → List X → ℕ → List X
  parts_from columns row i = parts_where test (drop i columns) (drop i row)

  abbrev pub cmp_from : List ColumnDef → List X → List X → ℕ → Ordering
  cmp_from columns row other i = slice_cmp cmp (parts_from columns row i) (parts_from columns other i)

  past_end : (columns : List ColumnDef) (row : List X) (i : ℕ) → length row ≤ i → parts_from columns row i ≡ []
  past_end columns row i h = rw (lists.drop_all i row h) (nothing_left test (drop i columns))

  skipped_row : (columns : List ColumnDef) (row : List X) (i : ℕ) (d : ColumnDef) → i < length columns → test (slice_index_or columns i d) ≡ false
      → parts_from columns row i ≡ parts_from columns row (i + 1)
  skipped_row columns row i d h t = ⊎_elim
      (λ f. rw (lists.drop_more columns i d h, lists.drop_more row i f.0 f.1, t))
      (λ f. past_end columns row i f.0 ∙ sym (past_end columns row (i + 1) (omega arith)))
      (slice_get_cases row i).1

  -- a column that doesn't pass changes nothing
  pub skipped : (columns : List ColumnDef) (row other : List X) (i : ℕ) (d : ColumnDef) → i < length columns → test (slice_index_or columns i d) ≡ false
      → cmp_from columns row other i ≡ cmp_from columns row other (i + 1)
  skipped columns row other i d h t = rw (skipped_row columns row i d h t, skipped_row columns other i d h t)

  taken_row : (columns : List ColumnDef) (row : List X) (i : ℕ) (d : ColumnDef) (x : X) → i < length columns → test (slice_index_or columns i d) ≡ true
      → i < length row → slice_index_or row i x ≡ x → parts_from columns row i ≡ x ∷ parts_from columns row (i + 1)
  taken_row columns row i d x h t l e = rw (lists.drop_more columns i d h, lists.drop_more row i x l, t, e)

  -- one that passes decides, or else those behind it
  decided : (columns : List ColumnDef) (row other : List X) (i : ℕ) (d : ColumnDef) → i < length columns → test (slice_index_or columns i d) ≡ true
      → cmp_from columns row other i ≡ ordering_then (option_cmp cmp (slice_get row i) (slice_get other i)) (cmp_from columns row other (i + 1))
  decided columns row other i d h t = ⊎_elim
      (λ f. ⊎_elim
      (λ g. rw (taken_row columns row i d f.0 h t f.1 f.3, taken_row columns other i d g.0 h t g.1 g.3, f.2, g.2))
      (λ g. rw (taken_row columns row i d f.0 h t f.1 f.3, past_end columns other i g.0, f.2, g.1))
      (slice_get_cases other i).1)
      (λ f. ⊎_elim
      (λ g. rw (past_end columns row i f.0, taken_row columns other i d g.0 h t g.1 g.3, f.1, g.2))
      (λ g. rw (past_end columns row i f.0, past_end columns other i g.0, f.1, g.1, past_end columns row (i + 1) (omega arith), past_end columns other (i + 1) (omega arith)))
      (slice_get_cases other i).1)
      (slice_get_cases row i).1

  -- the comparison at such a column, where it doesn't tie and where it does
  pub decided_here : (columns : List ColumnDef) (row other : List X) (i : ℕ) (d : ColumnDef) → i < length columns → test (slice_index_or columns i d) ≡ true
      → (o : Ordering) → o ≡ option_cmp cmp (slice_get row i) (slice_get other i) → not (eqb (ordering_index o) 1) ≡ true → cmp_from columns row other i ≡ o
  decided_here columns row other i d h t o e n = decided columns row other i d h t ∙ ap (λ (o : Ordering). ordering_then o (cmp_from columns row other (i + 1))) (sym e) ∙ no_tie o (cmp_from columns row other (i + 1)) n

  pub decided_later : (columns : List ColumnDef) (row other : List X) (i : ℕ) (d : ColumnDef) → i < length columns → test (slice_index_or columns i d) ≡ true
      → (o : Ordering) → o ≡ option_cmp cmp (slice_get row i) (slice_get other i) → not (eqb (ordering_index o) 1) ≡ false → cmp_from columns row other i ≡ cmp_from columns row other (i + 1)
  decided_later columns row other i d h t o e n = decided columns row other i d h t ∙ ap (λ (o : Ordering). ordering_then o (cmp_from columns row other (i + 1))) (sym e) ∙ a_tie o (cmp_from columns row other (i + 1)) n

-- what is left of comparing two rows: their cells in stored order, and their keys
abbrev pub orders_rows : ColumnDef → Bool
orders_rows c = not (is_of_category_binary c.category)

abbrev pub stored_from : List ColumnDef → List ValueRef → List ValueRef → ℕ → Ordering
stored_from = cmp_from cell_cmp orders_rows

abbrev pub is_key : ColumnDef → Bool
is_key c = c.is_primary_key

abbrev pub keys_from : List ColumnDef → List Place → List ValueRef → List ValueRef → ℕ → Ordering
keys_from columns places row other = cmp_from value_cmp is_key columns (row_values places row) (row_values places other)

-- the values at a place
pub values_at : (places : List Place) (row other : List ValueRef) (i : ℕ) (o : Ordering)
    → o ≡ option_cmp value_cmp (option_map (value_of_cell places) (slice_get row i)) (option_map (value_of_cell places) (slice_get other i))
    → o ≡ option_cmp value_cmp (slice_get (row_values places row) i) (slice_get (row_values places other) i)
values_at places row other i o e = e ∙ rw (slice_get-map (value_of_cell places) row i, slice_get-map (value_of_cell places) other i)
