-- Rows that are taken out of a table, from any change on: their texts are given back.
use Rattle.std.proofs.Common.{◌≡◌, ℕ, ◌+◌, Bool, true, false, not, List, [], ◌∷◌, map, length, filter, Some, refl, ap, ◌∙◌, arith, ⊎_elim, ◌==◌}
use Rattle.std.specs.List.{list_all}
use Rattle.std.proofs.lemmas.Bool.{cases_Bool, and_parts, and_from}
use Rattle.msi_pool.specs.FirstFit.{most_places}
use Rattle.msi_pool.specs.FirstFitLaws.{TakenPlacesHoldTheirText, GivenBackTakesOne}
use Rattle.msi_table_cells.specs.declared.cell.ValueRef.{ValueRef}
use Rattle.msi_table_cells.specs.CellValues.{row_values}
use Rattle.msi_table_cells.specs.StoredOrder.{row_cmp, in_stored_order}
use Rattle.msi_database_changes.specs.Database.{Database, table_at, rows_of, is_sound, CountsAreExact}
use Rattle.msi_table_cells.specs.TableCells.{TableCells}
use Rattle.msi_database_changes.specs.Changes.{Change, pool_of}
use Rattle.msi_database_changes.specs.Texts.{PoolInUse, rows_released}
use Rattle.msi_database_schema.proofs.AccountLemmas.{Uses, none, ◌⊕◌, Moved}
use Rattle.msi_database_changes.proofs.steps.TurnLemmas.{total}
use Rattle.msi_database_changes.proofs.text_counts.RowsLemmas.{row_uses, rows_uses, rows_released_moves}
use Rattle.msi_database_schema.proofs.SortLemmas.{all_sorted}
use Rattle.msi_database_changes.proofs.text_counts.TablesLemmas.{table_uses, total-sorted}
use Rattle.msi_database_changes.proofs.steps.StoredLemmas.{rows_are_full, WellFormed, rows_full, stored_in, others, uses_before, Exchanged, enough_before, stored_sound, stored_well, stored_exact}
use Rattle.msi_database_changes.proofs.steps.ValuesLemmas.{rows_stay}

-- what passes one test fails the other
total-split : {X : Type 0} (f : X → Uses) (p q : X → Bool) → ((x : X) → q x ≡ not (p x)) → (xs : List X) (n : ℕ) → total f (filter p xs) n + total f (filter q xs) n ≡ total f xs n
total-split f p q other [] n = omega arith
total-split f p q other (x ∷ xs) n = ⊎_elim
    (λ (t : p x ≡ true). let u : q x ≡ false = other x ∙ ap not t in rw (t, u) (omega (arith, total-split f p q other xs n)))
    (λ (t : p x ≡ false). let u : q x ≡ true = other x ∙ ap not t in rw (t, u) (omega (arith, total-split f p q other xs n)))
    (cases_Bool (p x))

pub all_filtered : {X : Type 0} (p q : X → Bool) (xs : List X) → list_all p xs ≡ true → list_all p (filter q xs) ≡ true
all_filtered p q [] h = refl
all_filtered p q (x ∷ xs) h =
    let parts = and_parts (p x) (list_all p xs) h in
    ⊎_elim
    (λ t. rw t (and_from (p x) (list_all p (filter q xs)) parts.0 (all_filtered p q xs parts.1)))
    (λ t. rw t (all_filtered p q xs parts.1))
    (cases_Bool (q x))

module _ (takes : TakenPlacesHoldTheirText) (gives : GivenBackTakesOne) (b : Change) (name : List ℕ) (t : TableCells) (found : table_at name b.database ≡ Some t) (sound : is_sound b.database ≡ true) (well : WellFormed b.database)
    (stays goes : List ValueRef → Bool) (apart : (row : List ValueRef) → goes row ≡ not (stays row)) where
  abbrev d : Database
  d = b.database

  abbrev kept : List (List ValueRef)
  kept = filter stays (rows_of t)

  abbrev gone : List (List ValueRef)
  gone = filter goes (rows_of t)

  abbrev pool_now : PoolInUse
  pool_now = rows_released (pool_of b) gone

  abbrev rows_now : List (List ValueRef)
  rows_now = in_stored_order t.columns kept

  abbrev now : Database
  now = stored_in d name t rows_now pool_now.places

  kept_and_gone : (n : ℕ) → rows_uses kept n + rows_uses gone n ≡ table_uses t n
  kept_and_gone n = total-split row_uses stays goes apart (rows_of t) n

  uses_now : (n : ℕ) → rows_uses rows_now n ≡ rows_uses kept n
  uses_now n = total-sorted row_uses (row_cmp t.columns) kept n

  release_moves : Moved (most_places d.pool.long) (others d name t ⊕ rows_uses kept) (rows_uses gone) none d.pool.places pool_now.places
  release_moves = rows_released_moves takes gives d.pool.long (others d name t ⊕ rows_uses kept) gone (pool_of b)
      (λ n. omega (arith, enough_before d name t found well.in_order sound well n, uses_before d name t found well.in_order n, kept_and_gone n))

  pub removed_moved : Exchanged d name t found well.in_order rows_now pool_now.places
  removed_moved = record {
    balance = λ n. omega (arith, release_moves.balance n, uses_now n, kept_and_gone n);
    texts = λ n h. release_moves.texts n (omega (arith, h));
    width = release_moves.width;
  }

  full_now : rows_are_full t.columns rows_now ≡ true
  full_now =
      let full : List ValueRef → Bool = λ row. length row == length t.columns in
      all_sorted (row_cmp t.columns) full kept (all_filtered full stays (rows_of t) (rows_full d name t well found))

  pub removed_sound : is_sound now ≡ true
  removed_sound = stored_sound d name t found well.in_order rows_now pool_now.places sound well removed_moved

  pub removed_well : WellFormed now
  removed_well = stored_well d name t found well.in_order rows_now pool_now.places sound well removed_moved full_now

  pub removed_exact : CountsAreExact d → CountsAreExact now
  removed_exact exact = stored_exact d name t found well.in_order rows_now pool_now.places sound well removed_moved exact

  -- the rows that stay have the values that they had
  pub kept_values : map (row_values pool_now.places) kept ≡ map (row_values d.pool.places) kept
  kept_values = rows_stay kept d.pool.places pool_now.places (λ n h. release_moves.texts n (omega (arith, h)))
