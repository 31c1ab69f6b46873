-- A delete.
use Rattle.std.proofs.Common.{◌≡◌, Bool, true, false, not, List, [], ◌∷◌, ◌++◌, map, filter, Some, Result, Ok, refl, sym, ap, ◌∙◌, subst, ⊎_elim, IsPermutation}
use Rattle.std.proofs.lemmas.Bool.{cases_Bool, not-false}
use Rattle.msi_base.specs.declared.errors.ErrorKind.{ErrorKind}
use Rattle.msi_base.specs.declared.errors.ErrorKind.TheVariants.{InvalidData, InvalidInput, NotFound}
use Rattle.msi_pool.specs.FirstFitLaws.{TakenPlacesHoldTheirText, GivenBackTakesOne}
use Rattle.msi_table_cells.specs.declared.cell.ValueRef.{ValueRef}
use Rattle.msi_table_cells.specs.CellValues.{row_values}
use Rattle.msi_table_cells.specs.StoredOrder.{row_cmp, in_stored_order}
use Rattle.msi_query.specs.Queries.{DeleteQuery}
use Rattle.msi_query_expressions.specs.Conditions.{meets}
use Rattle.msi_query.specs.Selection.{has_columns, condition_names}
use Rattle.msi_base.specs.Refusals.{Refusals, unless_refused, or_refused, ◌>>=◌}
use Rattle.msi_database_schema.specs.System.{is_system_table}
use Rattle.msi_database_changes.specs.Database.{Database, table_at, rows_of, is_sound, CountsAreExact, same_bool}
use Rattle.msi_table_cells.specs.TableCells.{TableCells}
use Rattle.msi_database_changes.specs.Changes.{Change, no_change, pool_of, sound_refusal}
use Rattle.msi_database_changes.specs.Texts.{PoolInUse, rows_released}
use Rattle.msi_database_changes.specs.Delete.{rows_deleted, delete_rows}
use Rattle.msi_database_changes.specs.Laws.{rows_at, OthersStay}
use Rattle.msi_database_changes.proofs.steps.RefusedLemmas.{bind_ok, not_refused, value_there, first_fails, front_fails}
use Rattle.msi_database_schema.proofs.SortLemmas.{values_sorted}
use Rattle.msi_database_changes.proofs.steps.StoredLemmas.{WellFormed}
use Rattle.msi_database_changes.proofs.row_changes.RemovedRowsLemmas.{removed_moved, removed_sound, removed_well, removed_exact, kept_values}
use Rattle.msi_database_changes.proofs.steps.ValuesLemmas.{others_stay, rows_after, rows_before}

-- what an accepted delete does
pub record Deleted (d : Database) (q : DeleteQuery) (c : Change) : Type 0 where
  pub sound : is_sound d ≡ true
  pub table : TableCells
  pub found : table_at q.table d ≡ Some table
  pub stored : rows_deleted table q (no_change d) ≡ c

abbrev early_refusals : Database → DeleteQuery → Refusals
early_refusals d q = sound_refusal d ++ (is_system_table q.table, InvalidInput) ∷ []

abbrev name_refusals : DeleteQuery → TableCells → Refusals
name_refusals q t = (not (has_columns t.columns (condition_names q.condition)), InvalidInput) ∷ []

abbrev deleted_from : Database → DeleteQuery → Change → Result Change ErrorKind
deleted_from d q c = or_refused NotFound (table_at q.table d) >>= λ t. unless_refused (name_refusals q t) (rows_deleted t q c)

pub delete_parts : (d : Database) (q : DeleteQuery) (c : Change) → delete_rows d q ≡ Ok c → Deleted d q c
delete_parts d q c e =
    bind_ok (unless_refused (early_refusals d q) (no_change d)) (deleted_from d q) c e
    (λ c₀ c₀_is rest.
    let passed = not_refused (early_refusals d q) (no_change d) c₀ c₀_is in
    let sound = not-false (is_sound d) (first_fails (not (is_sound d)) InvalidData [] (front_fails (sound_refusal d) ((is_system_table q.table, InvalidInput) ∷ []) passed.0).0).0 in
    bind_ok (or_refused NotFound (table_at q.table d)) (λ t. unless_refused (name_refusals q t) (rows_deleted t q (no_change d))) c (subst (λ c₁. deleted_from d q c₁ ≡ Ok c) (sym passed.1) rest)
    (λ t t_is rest'. record {
      sound = sound;
      table = t;
      found = value_there NotFound (table_at q.table d) t t_is;
      stored = (not_refused (name_refusals q t) (rows_deleted t q (no_change d)) c rest').1;
    }))

pub map_filtered : {X Y : Type 0} (f : X → Y) (p : X → Bool) (q : Y → Bool) → ((x : X) → p x ≡ q (f x)) → (xs : List X) → map f (filter p xs) ≡ filter q (map f xs)
map_filtered f p q same [] = refl
map_filtered {Y = Y} f p q same (x ∷ xs) = ⊎_elim
    (λ (t : q (f x) ≡ true). let u : p x ≡ true = same x ∙ t in rw (t, u) (ap (λ (ys : List Y). f x ∷ ys) (map_filtered f p q same xs)))
    (λ (t : q (f x) ≡ false). let u : p x ≡ false = same x ∙ t in rw (t, u) (map_filtered f p q same xs))
    (cases_Bool (q (f x)))

same_true : (b : Bool) → same_bool b true ≡ not (same_bool b false)
same_true true = refl
same_true false = refl

same_false : (b : Bool) → same_bool b false ≡ not b
same_false true = refl
same_false false = refl

module _ (takes : TakenPlacesHoldTheirText) (gives : GivenBackTakesOne) (d : Database) (q : DeleteQuery) (c : Change) (well : WellFormed d) (s : Deleted d q c) where
  abbrev pub meeting : List ValueRef → Bool
  meeting row = meets s.table.columns q.condition (row_values d.pool.places row)

  abbrev pub stays : List ValueRef → Bool
  stays row = same_bool (meeting row) false

  abbrev pub goes : List ValueRef → Bool
  goes row = same_bool (meeting row) true

  pub apart : (row : List ValueRef) → goes row ≡ not (stays row)
  apart row = same_true (meeting row)

  abbrev kept : List (List ValueRef)
  kept = filter stays (rows_of s.table)

  abbrev pool_now : PoolInUse
  pool_now = rows_released (pool_of (no_change d)) (filter goes (rows_of s.table))

  pub delete_sound : is_sound c.database ≡ true
  delete_sound = subst (λ (c : Change). is_sound c.database ≡ true) s.stored (removed_sound takes gives (no_change d) q.table s.table s.found s.sound well stays goes apart)

  pub delete_well : WellFormed c.database
  delete_well = subst (λ (c : Change). WellFormed c.database) s.stored (removed_well takes gives (no_change d) q.table s.table s.found s.sound well stays goes apart)

  pub delete_exact : CountsAreExact d → CountsAreExact c.database
  delete_exact exact = subst (λ (c : Change). CountsAreExact c.database) s.stored (removed_exact takes gives (no_change d) q.table s.table s.found s.sound well stays goes apart exact)

  values_now : map (row_values pool_now.places) kept ≡ filter (λ row. not (meets s.table.columns q.condition row)) (rows_at q.table d)
  values_now = kept_values takes gives (no_change d) q.table s.table s.found s.sound well stays goes apart
      ∙ map_filtered (row_values d.pool.places) stays (λ row. not (meets s.table.columns q.condition row)) (λ row. same_false (meeting row)) (rows_of s.table)
      ∙ ap (filter (λ row. not (meets s.table.columns q.condition row))) (sym (rows_before d q.table s.table s.found well.in_order))

  -- the table has the rows that don't meet the condition, and the others are as they were
  pub delete_removes : IsPermutation (filter (λ row. not (meets s.table.columns q.condition row)) (rows_at q.table d)) (rows_at q.table c.database) × OthersStay q.table d c.database
  delete_removes = subst (λ (c : Change). IsPermutation (filter (λ row. not (meets s.table.columns q.condition row)) (rows_at q.table d)) (rows_at q.table c.database) × OthersStay q.table d c.database) s.stored (
    rw (rows_after d q.table s.table s.found well.in_order (in_stored_order s.table.columns kept) pool_now.places, ← values_now) (values_sorted pool_now.places (row_cmp s.table.columns) kept),
    others_stay d q.table s.table s.found well.in_order (in_stored_order s.table.columns kept) pool_now.places (removed_moved takes gives (no_change d) q.table s.table s.found s.sound well stays goes apart).texts,
  )
