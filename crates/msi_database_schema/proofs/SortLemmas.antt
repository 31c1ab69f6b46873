-- What a stable sort leaves of rows: what holds of each, their values, and how many cells they have.
use Rattle.std.proofs.Common.{◌≡◌, ℕ, Bool, true, ◌&&◌, List, [], ◌∷◌, map, length, refl, ⊎_elim, ◌==◌, IsPermutation, Ordering}
use Rattle.std.specs.List.{list_all}
use Rattle.std.specs.Ordering.{is_lt}
use Rattle.std.proofs.lemmas.Bool.{cases_Bool, and_parts, and_from}
use Rattle.std.proofs.lemmas.List.{length-map}
use Rattle.std.proofs.lemmas.List.Sorted.{IsPermutation-map}
use Rattle.msi_pool.specs.Pool.{Place}
use Rattle.msi_base.specs.Lists.{placed, stable_sort}
use Rattle.msi_table_cells.specs.declared.cell.ValueRef.{ValueRef}
use Rattle.msi_table_cells.specs.CellValues.{row_values}
use Rattle.msi_table_cells.proofs.StableSortLemmas.{sort_moves}

module _ {X : Type 0} (cmp : X → X → Ordering) where
  all_placed : (p : X → Bool) (x : X) (ys : List X) → p x ≡ true → list_all p ys ≡ true → list_all p (placed cmp x ys) ≡ true
  all_placed p x [] h hs = and_from (p x) true h refl
  all_placed p x (y ∷ ys) h hs =
      let parts = and_parts (p y) (list_all p ys) hs in
      ⊎_elim
      (λ t. rw t (and_from (p y) (list_all p (placed cmp x ys)) parts.0 (all_placed p x ys h parts.1)))
      (λ t. rw t (and_from (p x) (p y && list_all p ys) h hs))
      (cases_Bool (is_lt (cmp y x)))

  pub all_sorted : (p : X → Bool) (xs : List X) → list_all p xs ≡ true → list_all p (stable_sort cmp xs) ≡ true
  all_sorted p [] h = refl
  all_sorted p (x ∷ xs) h =
      let parts = and_parts (p x) (list_all p xs) h in
      all_placed p x (stable_sort cmp xs) parts.0 (all_sorted p xs parts.1)

-- a stable sort moves the values of rows
pub values_sorted : (places : List Place) (cmp : List ValueRef → List ValueRef → Ordering) (rows : List (List ValueRef)) → IsPermutation (map (row_values places) rows) (map (row_values places) (stable_sort cmp rows))
values_sorted places cmp rows = IsPermutation-map (row_values places) rows (stable_sort cmp rows) (sort_moves cmp rows)

-- rows of values are as long as their cells are many
pub long_as_values : (places : List Place) (n : ℕ) (rows : List (List ValueRef)) → list_all (λ vs. length vs == n) (map (row_values places) rows) ≡ list_all (λ row. length row == n) rows
long_as_values places n [] = refl
long_as_values places n (row ∷ rows) = rw (length-map, long_as_values places n rows)
