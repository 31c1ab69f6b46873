-- Whole rows: put, and released.
use Rattle.std.proofs.Common.{◌≡◌, ℕ, Bool, false, List, [], ◌∷◌, map, Some, fold, refl, ◌∙◌, arith, map-id}
use Rattle.std.specs.Prelude.{⊤}
use Rattle.std.specs.List.{AllByRecursion}
use Rattle.msi_pool.specs.Pool.{Place}
use Rattle.msi_pool.specs.FirstFit.{most_places}
use Rattle.msi_pool.specs.FirstFitLaws.{TakenPlacesHoldTheirText, GivenBackTakesOne}
use Rattle.msi_table_values.specs.declared.value.Value.{Value}
use Rattle.msi_table_cells.specs.declared.cell.ValueRef.{ValueRef}
use Rattle.msi_table_cells.specs.CellValues.{value_of_cell, row_values}
use Rattle.msi_database_changes.specs.Texts.{PoolInUse, cell_put, cell_released, in_turn, rows_put, rows_released}
use Rattle.msi_database_schema.proofs.AccountLemmas.{Uses, none, ◌⊕◌, Enough, Moved, unmoved}
use Rattle.msi_database_changes.proofs.steps.TurnLemmas.{total, total-none, TextsStay, Step, turned, news_stay}
use Rattle.msi_database_changes.proofs.text_counts.CellLemmas.{cell_uses, value_uses, value_stays, cell_put_moves, cell_released_moves}

abbrev pub row_uses : List ValueRef → Uses
row_uses row = total cell_uses row

abbrev pub rows_uses : List (List ValueRef) → Uses
rows_uses rows = total row_uses rows

abbrev pub row_value_uses : List Value → Uses
row_value_uses row = total value_uses row

pub row_stays : (row : List ValueRef) (before after : List Place) → TextsStay (row_uses row) before after → row_values after row ≡ row_values before row
row_stays row before after h = news_stay 0 (cell_put false) value_uses cell_uses (λ p v. v) value_of_cell (λ v. v) (λ v. v) (λ v. ⊤) (λ v a b k. refl) value_stays row before after h

all_same : {X : Type 0} (xs : List X) → AllByRecursion (λ (x : X). (x ≡ x) × ⊤) xs
all_same [] = tt
all_same (x ∷ xs) = ((refl, tt), all_same xs)

-- one after another is released
module _ {X : Type 0} (most : ℕ) (step : PoolInUse → X → PoolInUse) (ins : X → Uses)
    (each : (stay : Uses) (x : X) (before : PoolInUse) → Enough before.places (stay ⊕ ins x) → Moved most stay (ins x) none before.places (step before x).places) where
  all_released : (stay : Uses) (xs : List X) (before : PoolInUse) → Enough before.places (stay ⊕ total ins xs) → Moved most stay (total ins xs) none before.places (fold step before xs).places
  all_released stay [] before enough = unmoved most stay none before.places
  all_released stay (x ∷ xs) before enough =
      let s = each (stay ⊕ total ins xs) x before (λ n. omega (arith, enough n)) in
      let t = all_released stay xs (step before x) (λ n. omega (arith, s.balance n, enough n)) in record {
        balance = λ n. omega (arith, s.balance n, t.balance n);
        texts = λ n k. t.texts n k ∙ s.texts n (omega (arith, k));
        width = λ k. t.width (s.width k);
      }

module _ (takes : TakenPlacesHoldTheirText) (gives : GivenBackTakesOne) (long : Bool) where
  abbrev pub RowPut : Uses → List Value → PoolInUse → List ValueRef × PoolInUse → Type 0
  RowPut = Step (most_places long) (in_turn (cell_put long)) row_value_uses row_uses (λ places row. row) row_values (λ row. row) (λ row. row) (λ row. ⊤) (λ row a b h. refl) row_stays

  row_put_moves : (stay : Uses) (row : List Value) (before : PoolInUse) (r : List ValueRef × PoolInUse) → Enough before.places (stay ⊕ row_value_uses row) → in_turn (cell_put long) before row ≡ Some r → RowPut stay row before r
  row_put_moves stay row before r enough e =
      let t = turned (most_places long) (cell_put long) value_uses cell_uses (λ places v. v) value_of_cell (λ v. v) (λ v. v) (λ v. ⊤) (λ v a b h. refl) value_stays
      (λ stay v before r enough same good put. cell_put_moves takes gives long stay v before r enough put) stay row before r enough (all_same row) e in
      record { moved = t.moved; value = t.values ∙ map-id row }

  pub record RowsPut (stay : Uses) (rows : List (List Value)) (before : PoolInUse) (r : List (List ValueRef) × PoolInUse) : Type 0 where
    pub moved : Moved (most_places long) stay none (rows_uses r.0) before.places r.1.places
    pub values : map (row_values r.1.places) r.0 ≡ rows

  no_uses : (rows : List (List Value)) (n : ℕ) → total row_value_uses rows n ≡ 0
  no_uses [] n = refl
  no_uses (row ∷ rows) n = omega (arith, total-none row n, no_uses rows n)

  -- the cells of rows have their values, and each names its place once more
  pub rows_put_moves : (stay : Uses) (rows : List (List Value)) (before : PoolInUse) (r : List (List ValueRef) × PoolInUse) → Enough before.places stay → rows_put long before rows ≡ Some r → RowsPut stay rows before r
  rows_put_moves stay rows before r enough e =
      let t = turned (most_places long) (in_turn (cell_put long)) row_value_uses row_uses (λ places row. row) row_values (λ row. row) (λ row. row) (λ row. ⊤) (λ row a b h. refl) row_stays
      (λ stay row before r enough same good put. row_put_moves stay row before r enough put) stay rows before r (λ n. omega (arith, enough n, no_uses rows n)) (all_same rows) e in
      record {
        moved = record { balance = λ n. omega (arith, t.moved.balance n, no_uses rows n); texts = t.moved.texts; width = t.moved.width };
        values = t.values ∙ map-id rows;
      }

  row_released_moves : (stay : Uses) (row : List ValueRef) (before : PoolInUse) → Enough before.places (stay ⊕ row_uses row) → Moved (most_places long) stay (row_uses row) none before.places (fold cell_released before row).places
  row_released_moves stay row before enough = all_released (most_places long) cell_released cell_uses (cell_released_moves takes gives long) stay row before enough

  -- the rows' cells give their places back
  pub rows_released_moves : (stay : Uses) (rows : List (List ValueRef)) (before : PoolInUse) → Enough before.places (stay ⊕ rows_uses rows) → Moved (most_places long) stay (rows_uses rows) none before.places (rows_released before rows).places
  rows_released_moves stay rows before enough = all_released (most_places long) (fold cell_released) row_uses row_released_moves stay rows before enough
