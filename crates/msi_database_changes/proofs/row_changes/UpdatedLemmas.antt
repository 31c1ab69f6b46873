-- The rows of a table after an update.
use Rattle.std.proofs.Common.{◌≡◌, Bool, true, false, List, [], ◌∷◌, map, length, Option, Some, refl, subst, if◌then◌else◌}
use Rattle.std.specs.List.{AllByRecursion}
use Rattle.std.proofs.lemmas.Option.{same_Some}
use Rattle.msi_pool.specs.Pool.{Place}
use Rattle.msi_pool.specs.FirstFit.{most_places}
use Rattle.msi_pool.specs.FirstFitLaws.{TakenPlacesHoldTheirText, GivenBackTakesOne}
use Rattle.msi_table_values.specs.declared.value.Value.{Value}
use Rattle.msi_table_cells.specs.declared.cell.ValueRef.{ValueRef}
use Rattle.msi_table_values.specs.Columns.{ColumnDef}
use Rattle.msi_table_cells.specs.CellValues.{row_values}
use Rattle.msi_query.specs.Queries.{UpdateQuery}
use Rattle.msi_query_expressions.specs.Conditions.{meets}
use Rattle.msi_database_changes.specs.Texts.{PoolInUse, in_turn}
use Rattle.msi_database_changes.specs.Setting.{values_set, cells_set}
use Rattle.msi_database_changes.specs.Update.{row_updated}
use Rattle.msi_database_schema.proofs.AccountLemmas.{Uses, ◌⊕◌, Enough, Moved, unmoved}
use Rattle.msi_database_changes.proofs.steps.TurnLemmas.{Step, turned}
use Rattle.msi_database_changes.proofs.text_counts.RowsLemmas.{row_uses, rows_uses, row_stays}
use Rattle.msi_database_changes.proofs.row_changes.SetCellsLemmas.{SetsWithin, RowSet, cells_set_moves}

-- a row of values after the update
abbrev pub values_updated : List ColumnDef → UpdateQuery → List Value → List Value
values_updated columns q row = if meets columns q.condition row then values_set columns q.sets row else row

module _ (takes : TakenPlacesHoldTheirText) (gives : GivenBackTakesOne) (long : Bool) (columns : List ColumnDef) (q : UpdateQuery) (places : List Place) where
  -- the sets name cells that the row has
  abbrev pub Reached : List ValueRef → Type 0
  Reached row = SetsWithin columns q.sets (length row)

  abbrev pub RowUpdated : Uses → List ValueRef → PoolInUse → List ValueRef × PoolInUse → Type 0
  RowUpdated = Step (most_places long) (row_updated long places columns q) row_uses row_uses row_values row_values (row_values places) (λ row. values_updated columns q (row_values places row)) Reached row_stays row_stays

  abbrev as_set : Bool → PoolInUse → List ValueRef → Option (List ValueRef × PoolInUse)
  as_set b pool row = if b then cells_set long columns pool row q.sets else Some (row, pool)

  abbrev as_values : Bool → List Value → List Value
  as_values b row = if b then values_set columns q.sets row else row

  by_condition : (b : Bool) (stay : Uses) (row : List ValueRef) (before : PoolInUse) (r : List ValueRef × PoolInUse) → Enough before.places (stay ⊕ row_uses row) → row_values before.places row ≡ row_values places row → Reached row
      → as_set b before row ≡ Some r → RowSet takes gives long stay row (as_values b (row_values places row)) before r
  by_condition true stay row before r enough same within e =
      subst (λ values. RowSet takes gives long stay row (values_set columns q.sets values) before r) same (cells_set_moves takes gives long columns stay q.sets row before r within enough e)
  by_condition false stay row before r enough same within e =
      subst (RowSet takes gives long stay row (row_values places row) before) (same_Some (row, before) r e) (record { moved = unmoved (most_places long) stay (row_uses row) before.places; values_are = same })

  row_updated_moves : (stay : Uses) (row : List ValueRef) (before : PoolInUse) (r : List ValueRef × PoolInUse) → Enough before.places (stay ⊕ row_uses row) → row_values before.places row ≡ row_values places row → Reached row
      → row_updated long places columns q before row ≡ Some r → RowUpdated stay row before r
  row_updated_moves stay row before r enough same within e =
      let t = by_condition (meets columns q.condition (row_values places row)) stay row before r enough same within e in
      record { moved = t.moved; value = t.values_are }

  pub record RowsUpdated (stay : Uses) (rows : List (List ValueRef)) (before : PoolInUse) (r : List (List ValueRef) × PoolInUse) : Type 0 where
    pub moved : Moved (most_places long) stay (rows_uses rows) (rows_uses r.0) before.places r.1.places
    pub values : map (row_values r.1.places) r.0 ≡ map (λ row. values_updated columns q (row_values places row)) rows

  at_first : (rows : List (List ValueRef)) → AllByRecursion Reached rows → AllByRecursion (λ row. (row_values places row ≡ row_values places row) × Reached row) rows
  at_first [] h = tt
  at_first (row ∷ rows) h = ((refl, h.0), at_first rows h.1)

  -- each row has the values that the update gives it, and the counts changed as its cells did
  pub rows_updated_moves : (stay : Uses) (rows : List (List ValueRef)) (used : Bool) (r : List (List ValueRef) × PoolInUse) → Enough places (stay ⊕ rows_uses rows) → AllByRecursion Reached rows
      → in_turn (row_updated long places columns q) (record { places = places; is_used = used }) rows ≡ Some r → RowsUpdated stay rows (record { places = places; is_used = used }) r
  rows_updated_moves stay rows used r enough within e =
      let t = turned (most_places long) (row_updated long places columns q) row_uses row_uses row_values row_values (row_values places) (λ row. values_updated columns q (row_values places row)) Reached row_stays row_stays
      row_updated_moves stay rows (record { places = places; is_used = used }) r enough (at_first rows within) e in
      record { moved = t.moved; values = t.values }
