-- Rows whose cells are set: per set, the old text is given back and then the new one taken.
use Rattle.std.proofs.Common.{◌≡◌, ℕ, zero, suc, ◌+◌, ◌<◌, Bool, List, [], ◌∷◌, map, length, set, Some, refl, sym, ap, ap₂, ◌∙◌, subst, arith, length-set}
use Rattle.std.specs.List.{AllByRecursion}
use Rattle.std.proofs.lemmas.Option.{same_Some, option_and_then_some}
use Rattle.msi_pool.specs.Pool.{Place}
use Rattle.msi_pool.specs.FirstFit.{most_places}
use Rattle.msi_pool.specs.FirstFitLaws.{TakenPlacesHoldTheirText, GivenBackTakesOne}
use Rattle.msi_table_values.specs.declared.value.Value.{Value}
use Rattle.msi_table_cells.specs.declared.cell.ValueRef.{ValueRef}
use Rattle.msi_table_cells.specs.declared.cell.ValueRef.TheVariants as cell
use Rattle.msi_table_values.specs.Columns.{ColumnDef}
use Rattle.msi_table_cells.specs.CellValues.{value_of_cell, row_values}
use Rattle.msi_table_cells.specs.Fitting.{cell_of}
use Rattle.msi_database_changes.specs.Texts.{PoolInUse, cell_put, cell_released}
use Rattle.msi_database_changes.specs.Setting.{index_of, values_set, cells_set}
use Rattle.msi_database_schema.proofs.AccountLemmas.{Uses, ◌⊕◌, Enough, Moved, unmoved}
use Rattle.msi_database_changes.proofs.steps.TurnLemmas.{TextsStay}
use Rattle.msi_database_changes.proofs.text_counts.CellLemmas.{cell_uses, cell_put_moves, cell_released_moves}
use Rattle.msi_database_changes.proofs.text_counts.RowsLemmas.{row_uses, row_stays}

-- a cell of a row, exchanged for another
uses_set : (row : List ValueRef) (i : ℕ) (c : ValueRef) (n : ℕ) → i < length row → row_uses (set row i c) n + cell_uses (cell_of row i) n ≡ row_uses row n + cell_uses c n
uses_set [] i c n h = absurd (omega (arith, h))
uses_set (x ∷ row) zero c n h = omega arith
uses_set (x ∷ row) (suc i) c n h = omega (arith, uses_set row i c n (omega (arith, h)))

-- the uses of a row but for one of its cells
abbrev rest_uses : List ValueRef → ℕ → Uses
rest_uses row i = row_uses (set row i cell.Null)

map_set : {X Y : Type 0} (f : X → Y) (xs : List X) (i : ℕ) (x : X) → map f (set xs i x) ≡ set (map f xs) i (f x)
map_set f [] i x = refl
map_set f (y ∷ ys) zero x = refl
map_set {Y = Y} f (y ∷ ys) (suc i) x = ap (λ (l : List Y). f y ∷ l) (map_set f ys i x)

set_twice : {X : Type 0} (xs : List X) (i : ℕ) (x y : X) → set (set xs i x) i y ≡ set xs i y
set_twice [] i x y = refl
set_twice (z ∷ xs) zero x y = refl
set_twice {X} (z ∷ xs) (suc i) x y = ap (λ (l : List X). z ∷ l) (set_twice xs i x y)

-- the sets name cells of a row of this length
abbrev pub SetsWithin : List ColumnDef → List (List ℕ × Value) → ℕ → Type 0
SetsWithin columns sets width = AllByRecursion (λ s. index_of columns s < width) sets

module _ (takes : TakenPlacesHoldTheirText) (gives : GivenBackTakesOne) (long : Bool) where
  -- a row after cells of it were exchanged: the values that it has, beside those that it had
  pub record RowSet (stay : Uses) (row : List ValueRef) (values : List Value) (before : PoolInUse) (r : List ValueRef × PoolInUse) : Type 0 where
    pub moved : Moved (most_places long) stay (row_uses row) (row_uses r.0) before.places r.1.places
    pub values_are : row_values r.1.places r.0 ≡ values

  -- the value of a cell that was set, where the cells beside it stayed
  value_set : (row : List ValueRef) (i : ℕ) (c : ValueRef) (v : Value) (before after : List Place) → TextsStay (rest_uses row i) before after → value_of_cell after c ≡ v
      → row_values after (set row i c) ≡ set (row_values before row) i v
  value_set row i c v before after stays is =
      let apart : (places : List Place) → row_values places (set row i c) ≡ set (row_values places (set row i cell.Null)) i (value_of_cell places c) =
      λ places. ap (row_values places) (sym (set_twice row i cell.Null c)) ∙ map_set (value_of_cell places) (set row i cell.Null) i c in
      apart after ∙ ap₂ (λ (l : List Value) (x : Value). set l i x) (row_stays (set row i cell.Null) before after stays ∙ map_set (value_of_cell before) row i cell.Null) is
      ∙ set_twice (row_values before row) i (value_of_cell before cell.Null) v

  one_set : (stay : Uses) (row : List ValueRef) (i : ℕ) (v : Value) (before : PoolInUse) (r : ValueRef × PoolInUse) → i < length row → Enough before.places (stay ⊕ row_uses row)
      → cell_put long (cell_released before (cell_of row i)) v ≡ Some r → RowSet stay row (set (row_values before.places row) i v) before (set row i r.0, r.1)
  one_set stay row i v before r inside enough e =
      let out = uses_set row i cell.Null in
      let s = cell_released_moves takes gives long (stay ⊕ rest_uses row i) (cell_of row i) before (λ n. omega (arith, enough n, out n inside)) in
      let t = cell_put_moves takes gives long (stay ⊕ rest_uses row i) v (cell_released before (cell_of row i)) r (λ n. omega (arith, enough n, out n inside, s.balance n)) e in
      let texts : TextsStay (stay ⊕ rest_uses row i) before.places r.1.places = λ n k. t.moved.texts n k ∙ s.texts n k in record {
        moved = record {
          balance = λ n. omega (arith, s.balance n, t.moved.balance n, out n inside, uses_set row i r.0 n inside);
          texts = λ n k. texts n (omega (arith, k));
          width = λ k. t.moved.width (s.width k);
        };
        values_are = value_set row i r.0 v before.places r.1.places (λ n k. texts n (omega (arith, k))) t.value;
      }

  pub cells_set_moves : (columns : List ColumnDef) (stay : Uses) (sets : List (List ℕ × Value)) (row : List ValueRef) (before : PoolInUse) (r : List ValueRef × PoolInUse)
      → SetsWithin columns sets (length row) → Enough before.places (stay ⊕ row_uses row)
      → cells_set long columns before row sets ≡ Some r → RowSet stay row (values_set columns sets (row_values before.places row)) before r
  cells_set_moves columns stay [] row before r within enough e =
      subst (RowSet stay row (row_values before.places row) before) (same_Some (row, before) r e) (record { moved = unmoved (most_places long) stay (row_uses row) before.places; values_are = refl })
  cells_set_moves columns stay (s ∷ ss) row before r within enough e = option_and_then_some _ (cell_put long (cell_released before (cell_of row (index_of columns s))) s.1) r e
      (λ c c_is rest.
      let i = index_of columns s in
      let first = one_set stay row i s.1 before c within.0 enough c_is in
      let next = cells_set_moves columns stay ss (set row i c.0) c.1 r (rw length-set within.1) (λ n. omega (arith, enough n, first.moved.balance n)) rest in record {
        moved = record {
          balance = λ n. omega (arith, first.moved.balance n, next.moved.balance n);
          texts = λ n k. next.moved.texts n k ∙ first.moved.texts n k;
          width = λ k. next.moved.width (first.moved.width k);
        };
        values_are = next.values_are ∙ ap (values_set columns ss) first.values_are;
      })
