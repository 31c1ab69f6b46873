-- What a change does to the pool: its counts stay in range, its free places stay empty, and it stays as it was where it wasn't used.
use Rattle.std.proofs.Common.{◌≡◌, ℕ, zero, suc, ◌+◌, ◌-◌, ◌<◌, ◌^◌, Bool, false, List, [], ◌∷◌, Option, Some, None, slice_get, refl, sym, ap, ◌∙◌, subst, arith, lit≤, fold}
use Rattle.std.specs.Prelude.{unwrap_or}
use Rattle.std.specs.Option.{option_map_or}
use Rattle.std.specs.List.{AllByRecursion}
use Rattle.std.proofs.lemmas.Bool.{true≢false}
use Rattle.std.proofs.lemmas.Option.{same_Some, option_and_then_some}
use Rattle.msi_pool.specs.Pool.{Place, PlacesWritten}
use Rattle.msi_pool.specs.FirstFit.{count_of, taken, given_back}
use Rattle.msi_pool.specs.FirstFitLaws.{TakenPlacesHoldTheirText, GivenBackTakesOne, Takes, GivesBack, count_at, text_at, place_at}
use Rattle.msi_table_values.specs.declared.value.Value.{Value}
use Rattle.msi_table_values.specs.declared.value.Value.TheVariants.{Null, Int, Str, Binary}
use Rattle.msi_table_cells.specs.declared.cell.ValueRef.{ValueRef}
use Rattle.msi_table_cells.specs.declared.cell.ValueRef.TheVariants as cell
use Rattle.msi_table_cells.proofs.StoredValuesLemmas.{by_number}
use Rattle.msi_database_changes.specs.Texts.{PoolInUse, cell_put, cell_released, in_turn, rows_put, rows_released}
use Rattle.msi_database_changes.proofs.steps.TurnLemmas.{map_some}

-- each count is in range, and a free place has the empty text
abbrev pub PlacesKept : List Place → Type 0
PlacesKept places = (i : ℕ) (p : Place) → slice_get places i ≡ Some p → (p.count < 65536) × (p.count ≡ 0 → p.text ≡ [])

bound_of : (o : Option Place) → ((p : Place) → o ≡ Some p → p.count < 65536) → count_of o < 65536
bound_of None h = lit≤ tt
bound_of (Some p) h = h p refl

count_in_range : (places : List Place) (i : ℕ) → PlacesKept places → count_of (slice_get places i) < 65536
count_in_range places i h = bound_of (slice_get places i) (λ p e. (h i p e).0)

module _ (number : ℕ) (before after : List Place) (from_one : 0 < number) where
  place_here : (j : ℕ) (p : Place) → j + 1 ≡ number → slice_get after j ≡ Some p → place_at after number ≡ Some p
  place_here j p same e = let index : number - 1 ≡ j = omega (arith, same) in ap (slice_get after) index ∙ e

  taken_kept : (text : List ℕ) → Takes text number before after → PlacesKept before → PlacesKept after
  taken_kept text t h j p e = by_number (j + 1) number
      (λ same.
      let count : p.count ≡ count_at before number + 1 = ap (λ (q : Place). q.count) (same_Some p _ (sym (place_here j p same e) ∙ t.place)) in
      (omega (arith, count, t.room), λ none. absurd (omega (arith, count, none))))
      (λ other. h j p (sym (t.others j other) ∙ e))

  given_kept : GivesBack number before after → PlacesKept before → PlacesKept after
  given_kept g h j p e = by_number (j + 1) number
      (λ same.
      let here = place_here j p same e in
      let count : count_at after number ≡ p.count = ap count_of here in
      let text : text_at after number ≡ p.text = ap (λ (o : Option Place). option_map_or (λ p. p.text) o []) here in
      (omega (arith, count, g.count, count_in_range before (number - 1) h), λ none. sym text ∙ g.last (count ∙ none)))
      (λ other. h j p (sym (g.others j other) ∙ e))

-- one step of a change
pub record PoolStep (before after : PoolInUse) : Type 0 where
  pub kept : PlacesKept before.places → PlacesKept after.places
  pub unused : after.is_used ≡ false → (after.places ≡ before.places) × (before.is_used ≡ false)

pub no_step : (pool : PoolInUse) → PoolStep pool pool
no_step pool = record { kept = λ h. h; unused = λ e. (refl, e) }

pub step_then : (a b c : PoolInUse) → PoolStep a b → PoolStep b c → PoolStep a c
step_then a b c s t = record { kept = λ h. t.kept (s.kept h); unused = λ e. let u = t.unused e in let v = s.unused (u.1) in (u.0 ∙ v.0, v.1) }

pub turn_steps : {X Y : Type 0} (step : PoolInUse → X → Option (Y × PoolInUse)) → ((s : PoolInUse) (x : X) (r : Y × PoolInUse) → step s x ≡ Some r → PoolStep s r.1)
    → (s : PoolInUse) (xs : List X) (r : List Y × PoolInUse) → in_turn step s xs ≡ Some r → PoolStep s r.1
turn_steps step each s [] r e = subst (λ r. PoolStep s r.1) (same_Some ([], s) r e) (no_step s)
turn_steps step each s (x ∷ xs) r e = option_and_then_some _ (step s x) r e
    (λ b b_is rest. map_some _ (in_turn step b.1 xs) r rest
    (λ c c_is whole. subst (λ r. PoolStep s r.1) whole (step_then s b.1 c.1 (each s x b b_is) (turn_steps step each b.1 xs c c_is))))

fold_steps : {X : Type 0} (step : PoolInUse → X → PoolInUse) → ((s : PoolInUse) (x : X) → PoolStep s (step s x)) → (s : PoolInUse) (xs : List X) → PoolStep s (fold step s xs)
fold_steps step each s [] = no_step s
fold_steps step each s (x ∷ xs) = step_then s (step s x) (fold step (step s x) xs) (each s x) (fold_steps step each (step s x) xs)

module _ (takes : TakenPlacesHoldTheirText) (gives : GivenBackTakesOne) where
  pub put_step : (long : Bool) (s : PoolInUse) (v : Value) (r : ValueRef × PoolInUse) → cell_put long s v ≡ Some r → PoolStep s r.1
  put_step long s (Str text) r e = map_some _ (taken long s.places text) r e
      (λ x x_is whole. let t = takes long s.places x.1 text x.0 x_is in
      subst (λ (r : ValueRef × PoolInUse). PoolStep s r.1) whole (record { kept = taken_kept x.0 s.places x.1 t.from_one text t; unused = λ e. absurd (true≢false e) }))
  put_step long s Null r e = subst (λ (r : ValueRef × PoolInUse). PoolStep s r.1) (same_Some _ r e) (no_step s)
  put_step long s (Int n) r e = subst (λ (r : ValueRef × PoolInUse). PoolStep s r.1) (same_Some _ r e) (no_step s)
  put_step long s Binary r e = subst (λ (r : ValueRef × PoolInUse). PoolStep s r.1) (same_Some _ r e) (no_step s)

  pub rows_put_step : (long : Bool) (s : PoolInUse) (rows : List (List Value)) (r : List (List ValueRef) × PoolInUse) → rows_put long s rows ≡ Some r → PoolStep s r.1
  rows_put_step long s rows r e = turn_steps (in_turn (cell_put long)) (turn_steps (cell_put long) (put_step long)) s rows r e

  -- the number 0 stands for the first place, too
  back_kept : (places : List Place) (number : ℕ) (o : Option (List Place)) → given_back places number ≡ o → PlacesKept places → PlacesKept (unwrap_or o places)
  back_kept places number None e h = h
  back_kept places zero (Some after) e h = given_kept 1 places after (lit≤ tt) (gives places after 1 (lit≤ tt) e) h
  back_kept places (suc i) (Some after) e h = given_kept (suc i) places after (omega arith) (gives places after (suc i) (omega arith) e) h

  pub released_step : (s : PoolInUse) (c : ValueRef) → PoolStep s (cell_released s c)
  released_step s (cell.Str number) = record { kept = back_kept s.places number (given_back s.places number) refl; unused = λ e. absurd (true≢false e) }
  released_step s cell.Null = no_step s
  released_step s (cell.Int n) = no_step s
  released_step s cell.Binary = no_step s

  pub rows_released_step : (s : PoolInUse) (rows : List (List ValueRef)) → PoolStep s (rows_released s rows)
  rows_released_step s rows = fold_steps (fold cell_released) (fold_steps cell_released released_step) s rows

-- the same, place after place
pub kept_from : (places : List Place) → AllByRecursion (λ p. p.count < 2 ^ 16) places → PlacesWritten places → PlacesKept places
kept_from [] a b i p e = cc
kept_from (q ∷ qs) a b zero p e = subst (λ (p : Place). (p.count < 65536) × (p.count ≡ 0 → p.text ≡ [])) (same_Some q p e) (a.0, b.0)
kept_from (q ∷ qs) a b (suc i) p e = kept_from qs a.1 b.1 i p e

pub counts_from : (places : List Place) → PlacesKept places → AllByRecursion (λ p. p.count < 2 ^ 16) places
counts_from [] h = tt
counts_from (q ∷ qs) h = ((h 0 q refl).0, counts_from qs (λ i p e. h (suc i) p e))

pub freed_from : (places : List Place) → PlacesKept places → PlacesWritten places
freed_from [] h = tt
freed_from (q ∷ qs) h = ((h 0 q refl).1, freed_from qs (λ i p e. h (suc i) p e))
