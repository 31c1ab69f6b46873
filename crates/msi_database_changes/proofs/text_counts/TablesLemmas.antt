-- What the cells of a database's tables name, and what exchanging a table's rows changes of that.
use Rattle.std.proofs.Common.{◌≡◌, ℕ, ◌+◌, ◌≤◌, T, cond, List, [], ◌∷◌, ◌++◌, Some, refl, ap, arith, ⊎_elim, flat_map, filter_map, count_by, ◌==◌, Ordering, Less, Equal, Greater}
use Rattle.std.specs.Ordering.{is_lt, is_eq}
use Rattle.std.specs.Cmp.{IsTotalOrder}
use Rattle.std.specs.FinMap.{find, put, is_sorted}
use Rattle.std.specs.FinMap.Entries.{length-put}
use Rattle.std.proofs.lemmas.Bool.{cases_Bool}
use Rattle.std.proofs.lemmas.List.Sums.{sum_by-cons, sum_by-append}
use Rattle.std.proofs.lemmas.Option.{none-some, same_Some}
use Rattle.msi_base.specs.Lists.{placed, stable_sort}
use Rattle.msi_base.proofs.BoolLemmas.{T_second}
use Rattle.msi_table_cells.specs.declared.cell.ValueRef.{ValueRef}
use Rattle.msi_table_cells.specs.declared.cell.ValueRef.TheVariants as cell
use Rattle.msi_table.specs.Census.{number_of_cell, numbers_of_rows}
use Rattle.msi_database_changes.specs.Database.{Database, Tables, rows_of, cells_naming}
use Rattle.msi_table_cells.specs.TableCells.{TableCells}
use Rattle.msi_database_schema.proofs.AccountLemmas.{Uses, once}
use Rattle.msi_database_changes.proofs.steps.TurnLemmas.{total}
use Rattle.msi_database_changes.proofs.text_counts.RowsLemmas.{row_uses, rows_uses}

-- how often a number stands in a list
abbrev pub times : ℕ → List ℕ → ℕ
times n xs = count_by (λ m. m == n) xs

pub times-cons : (n x : ℕ) (xs : List ℕ) → times n (x ∷ xs) ≡ once x n + times n xs
times-cons n x xs = sum_by-cons (λ m. cond (m == n) 1 0) x xs

times-append : (n : ℕ) (xs ys : List ℕ) → times n (xs ++ ys) ≡ times n xs + times n ys
times-append n xs ys = sum_by-append (λ m. cond (m == n) 1 0) xs ys

times-flat_map : {X : Type 0} (f : X → List ℕ) (g : X → Uses) → ((x : X) (n : ℕ) → times n (f x) ≡ g x n) → (xs : List X) (n : ℕ) → times n (flat_map f xs) ≡ total g xs n
times-flat_map f g each [] n = refl
times-flat_map f g each (x ∷ xs) n = omega (arith, times-append n (f x) (flat_map f xs), each x n, times-flat_map f g each xs n)

times-row : (row : List ValueRef) (n : ℕ) → times n (filter_map number_of_cell row) ≡ row_uses row n
times-row [] n = refl
times-row (cell.Str number ∷ row) n = omega (arith, times-cons n number (filter_map number_of_cell row), times-row row n)
times-row (cell.Null ∷ row) n = omega (arith, times-row row n)
times-row (cell.Int m ∷ row) n = omega (arith, times-row row n)
times-row (cell.Binary ∷ row) n = omega (arith, times-row row n)

times-rows : (rows : List (List ValueRef)) (n : ℕ) → times n (numbers_of_rows rows) ≡ rows_uses rows n
times-rows rows n = times-flat_map (filter_map number_of_cell) row_uses times-row rows n

-- the cells of tables, and of a whole database
abbrev pub table_uses : TableCells → Uses
table_uses t = rows_uses (rows_of t)

abbrev pub tables_uses : Tables → Uses
tables_uses tables = total (λ e. table_uses e.1) tables

abbrev pub database_uses : Database → Uses
database_uses d n = tables_uses d.tables n + rows_uses d.unlisted_validation n

pub naming_is : (d : Database) (n : ℕ) → cells_naming d n ≡ database_uses d n
naming_is d n = omega (
  arith,
  times-append n (flat_map (λ t. numbers_of_rows (rows_of t.1)) d.tables) (numbers_of_rows d.unlisted_validation),
  times-flat_map (λ t. numbers_of_rows (rows_of t.1)) (λ e. table_uses e.1) (λ e n. times-rows (rows_of e.1) n) d.tables n,
  times-rows d.unlisted_validation n,
)

-- a sort changes no total
total-placed : {X : Type 0} (f : X → Uses) (cmp : X → X → Ordering) (x : X) (xs : List X) (n : ℕ) → total f (placed cmp x xs) n ≡ f x n + total f xs n
total-placed f cmp x [] n = refl
total-placed f cmp x (y ∷ ys) n = ⊎_elim
    (λ t. rw t (omega (arith, total-placed f cmp x ys n)))
    (λ t. rw t)
    (cases_Bool (is_lt (cmp y x)))

pub total-sorted : {X : Type 0} (f : X → Uses) (cmp : X → X → Ordering) (xs : List X) (n : ℕ) → total f (stable_sort cmp xs) n ≡ total f xs n
total-sorted f cmp [] n = refl
total-sorted f cmp (x ∷ xs) n = omega (arith, total-placed f cmp x (stable_sort cmp xs) n, total-sorted f cmp xs n)

-- an entry's value is among those of all entries
pub total-found : {K X : Type 0} (R : K → K → Ordering) (f : X → Uses) (k : K) (v : X) (es : List (K × X)) (n : ℕ) → find R k es ≡ Some v → f v n ≤ total (λ e. f e.1) es n
total-found R f k v [] n e = absurd (none-some v e)
total-found R f k v (x ∷ es) n e = ⊎_elim
    (λ t. let is : x.1 ≡ v = same_Some x.1 v (rw t at e) in omega (arith, ap (λ w. f w n) is))
    (λ t. omega (arith, total-found R f k v es n (rw t at e)))
    (cases_Bool (is_eq (R k x.0)))

-- a value that is put over another, where the keys rise
module _ {K X : Type 0} (R : K → K → Ordering) (o : IsTotalOrder R) (f : X → Uses) (k : K) (v w : X) where
  put_over : (x : K × X) (es : List (K × X)) (n : ℕ) (r : Ordering) → R k x.0 ≡ r → T (is_sorted R (x ∷ es)) → find R k (x ∷ es) ≡ Some v
      → (T (is_sorted R es) → find R k es ≡ Some v → total (λ e. f e.1) (put R k w es) n + f v n ≡ total (λ e. f e.1) es n + f w n)
      → total (λ e. f e.1) (put R k w (x ∷ es)) n + f v n ≡ total (λ e. f e.1) (x ∷ es) n + f w n
  put_over x es n Less is sorted found next =
      let there = rw is at found in
      absurd (omega (arith, rw (is, there) at (length-put R o k w (x ∷ es) sorted)))
  put_over x es n Equal is sorted found next = rw is (omega (arith, ap (λ u. f u n) (same_Some x.1 v (rw is at found))))
  put_over x es n Greater is sorted found next = rw is (omega (arith, next (T_second _ _ sorted) (rw is at found)))

  pub total-put : (es : List (K × X)) (n : ℕ) → T (is_sorted R es) → find R k es ≡ Some v → total (λ e. f e.1) (put R k w es) n + f v n ≡ total (λ e. f e.1) es n + f w n
  total-put [] n sorted found = absurd (none-some v found)
  total-put (x ∷ es) n sorted found = put_over x es n (R k x.0) refl sorted found (total-put es n)
