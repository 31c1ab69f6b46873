-- Cells: putting one takes its text, and releasing one gives its text back.
use Rattle.std.proofs.Common.{◌≡◌, ℕ, ◌<◌, Bool, List, Some, refl, ap, subst, arith, slice_get, set, ◌-◌}
use Rattle.std.specs.Prelude.{⊤, unwrap_or}
use Rattle.std.proofs.lemmas.Bool.Decides.{nat_tests}
use Rattle.std.proofs.lemmas.Option.{same_Some}
use Rattle.msi_pool.specs.Pool.{Place}
use Rattle.msi_pool.specs.FirstFit.{most_places, taken, given_back, lowered}
use Rattle.msi_pool.specs.FirstFitLaws.{TakenPlacesHoldTheirText, GivenBackTakesOne}
use Rattle.msi_table_values.specs.declared.value.Value.{Value}
use Rattle.msi_table_values.specs.declared.value.Value.TheVariants.{Null, Int, Str, Binary}
use Rattle.msi_table_cells.specs.declared.cell.ValueRef.{ValueRef}
use Rattle.msi_table_cells.specs.declared.cell.ValueRef.TheVariants as cell
use Rattle.msi_table_cells.specs.CellValues.{value_of_cell}
use Rattle.msi_table_cells.proofs.StoredValuesLemmas.{taken_within, lowers}
use Rattle.msi_database_changes.specs.Texts.{PoolInUse, cell_put, cell_released}
use Rattle.msi_database_schema.proofs.AccountLemmas.{Uses, none, once, ◌⊕◌, Enough, Moved, unmoved, taken_moved, taken_text, back_moved, room_at, named_pos}
use Rattle.msi_database_changes.proofs.steps.TurnLemmas.{TextsStay, Step, map_some}

-- what a cell names
abbrev pub cell_uses : ValueRef → Uses
cell_uses (cell.Str number) = once number
cell_uses cell.Null = none
cell_uses (cell.Int n) = none
cell_uses cell.Binary = none

abbrev pub value_uses : Value → Uses
value_uses v = none

pub value_stays : (c : ValueRef) (before after : List Place) → TextsStay (cell_uses c) before after → value_of_cell after c ≡ value_of_cell before c
value_stays (cell.Str number) before after h = ap Str (h number (grind (arith, nat_tests)))
value_stays cell.Null before after h = refl
value_stays (cell.Int n) before after h = refl
value_stays cell.Binary before after h = refl

module _ (takes : TakenPlacesHoldTheirText) (gives : GivenBackTakesOne) (long : Bool) where
  abbrev pub CellPut : Uses → Value → PoolInUse → ValueRef × PoolInUse → Type 0
  CellPut = Step (most_places long) (cell_put long) value_uses cell_uses (λ places v. v) value_of_cell (λ v. v) (λ v. v) (λ v. ⊤) (λ v a b h. refl) value_stays

  -- the cell of a value has it, and one cell more names its place
  pub cell_put_moves : (stay : Uses) (v : Value) (before : PoolInUse) (r : ValueRef × PoolInUse) → Enough before.places (stay ⊕ value_uses v) → cell_put long before v ≡ Some r → CellPut stay v before r
  cell_put_moves stay (Str text) before r enough e = map_some _ (taken long before.places text) r e
      (λ x x_is whole.
      let t = takes long before.places x.1 text x.0 x_is in
      let some : Enough before.places stay = λ n. omega (arith, enough n) in
      subst (CellPut stay (Str text) before) whole (record {
        moved = taken_moved (most_places long) stay text x.0 before.places x.1 t some (taken_within long before.places x.1 text x.0 x_is);
        value = ap Str (taken_text (most_places long) stay text x.0 before.places x.1 t some);
      }))
  cell_put_moves stay Null before r enough e = subst (CellPut stay Null before) (same_Some _ r e) (record { moved = unmoved (most_places long) stay none before.places; value = refl })
  cell_put_moves stay (Int n) before r enough e = subst (CellPut stay (Int n) before) (same_Some _ r e) (record { moved = unmoved (most_places long) stay none before.places; value = refl })
  cell_put_moves stay Binary before r enough e = subst (CellPut stay Binary before) (same_Some _ r e) (record { moved = unmoved (most_places long) stay none before.places; value = refl })

  -- a cell that is released gives its place back, and names no place any more
  abbrev pub CellReleased : Uses → ValueRef → PoolInUse → Type 0
  CellReleased stay c before = Moved (most_places long) stay (cell_uses c) none before.places (cell_released before c).places

  back_at : (stay : Uses) (number : ℕ) (before after : List Place) → Enough before (stay ⊕ once number) → given_back before number ≡ Some after
      → Moved (most_places long) stay (once number) none before (unwrap_or (given_back before number) before)
  back_at stay number before after enough e =
      let from_one = named_pos before (stay ⊕ once number) number enough (grind (arith, nat_tests)) in
      rw e (back_moved (most_places long) stay number before after (gives before after number from_one e) enough)

  pub cell_released_moves : (stay : Uses) (c : ValueRef) (before : PoolInUse) → Enough before.places (stay ⊕ cell_uses c) → CellReleased stay c before
  cell_released_moves stay (cell.Str number) before enough =
      let named : 0 < once number number = grind (arith, nat_tests) in
      let from_one = named_pos before.places (stay ⊕ once number) number enough (omega (arith, named)) in
      let lowered_at = lowers (λ p. set before.places (number - 1) (lowered p)) (slice_get before.places (number - 1)) (omega (arith, enough number, named, room_at before.places number from_one)) in
      back_at stay number before.places lowered_at.0 enough lowered_at.1
  cell_released_moves stay cell.Null before enough = unmoved (most_places long) stay none before.places
  cell_released_moves stay (cell.Int n) before enough = unmoved (most_places long) stay none before.places
  cell_released_moves stay cell.Binary before enough = unmoved (most_places long) stay none before.places
