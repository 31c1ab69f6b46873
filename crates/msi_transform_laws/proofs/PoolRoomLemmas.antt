-- Texts that find room in a pool, and how many places they add.
use Rattle.std.proofs.Common.{◌≡◌, ℕ, ◌+◌, ◌-◌, ◌<◌, ◌≤◌, true, cond, ◌||◌, List, [], ◌∷◌, length, set, fold, Option, Some, None, refl, ap, ◌∙◌, arith, length-set}
use Rattle.std.specs.Prelude.{option_and_then, option_map, unwrap_or, nat_lt, position, slice_get, ◌==◌}
use Rattle.std.proofs.lemmas.Bool.{lt-ltb}
use Rattle.std.proofs.lemmas.List.Quantifiers.{position-Some}
use Rattle.msi_base.proofs.BoolLemmas.{by_test}
use Rattle.msi_pool.specs.Pool.{Place}
use Rattle.msi_pool.specs.FirstFit.{first_fit, is_fit, lowered, most_places, taken, with_text_at}
use Rattle.msi_pool.proofs.TakenLemmas.{taken_takes}
use Rattle.msi_table_cells.specs.declared.cell.ValueRef.{ValueRef}
use Rattle.msi_table_cells.specs.declared.cell.ValueRef.TheVariants as cell
use Rattle.msi_table_values.specs.declared.value.Value.{Value}
use Rattle.msi_table_values.specs.declared.value.Value.TheVariants.{Null, Int, Str, Binary}
use Rattle.msi_database_changes.specs.Texts.{PoolInUse, cell_put, cell_released, in_turn}
use Rattle.msi_transform_laws.specs.RowsApplied.{texts_in}

no_place : Place
no_place = record { text = []; count = 0 }

fit_within : (text : List ℕ) (places : List Place) (o : Option ℕ) → position (is_fit text) places ≡ o → unwrap_or o (length places) ≤ length places
fit_within text places None e = omega arith
fit_within text places (Some i) e = let inside : i < length places = (position-Some (is_fit text) places i no_place e).0 in omega (arith, inside)

abbrev Taken : List Place → List ℕ → Type 0
Taken places text = (r : ℕ × List Place) × (taken true places text ≡ Some r) × (length r.1 ≤ length places + 1)

taken_there : (places : List Place) (text : List ℕ) → length places < 16777215 → Taken places text
taken_there places text room =
    let i = first_fit text places in
    let within : i ≤ length places = fit_within text places (position (is_fit text) places) refl in
    let passes : (nat_lt i (length places) || nat_lt i (most_places true)) ≡ true = by_test (nat_lt i (length places))
    (λ t. rw t refl)
    (λ t. rw (t, lt-ltb i 16777215 (omega (arith, within, room))) refl) in
    let is : taken true places text ≡ Some (i + 1, with_text_at places i text) = ap (λ b. cond b (Some (i + 1, with_text_at places i text)) None) passes in
    ((i + 1, with_text_at places i text), is, (let takes = taken_takes true places (with_text_at places i text) text (i + 1) is in omega (arith, takes.many, within)))

abbrev pub CellPut : PoolInUse → Value → Type 0
CellPut pool v = (r : ValueRef × PoolInUse) × (cell_put true pool v ≡ Some r) × (length r.1.places ≤ length pool.places + texts_in (v ∷ []))

pub put_there : (pool : PoolInUse) (v : Value) → length pool.places + texts_in (v ∷ []) ≤ 16777215 → CellPut pool v
put_there pool Null room = ((cell.Null, pool), refl, omega arith)
put_there pool (Int n) room = ((cell.Int n, pool), refl, omega arith)
put_there pool Binary room = ((cell.Binary, pool), refl, omega arith)
put_there pool (Str text) room =
    let t = taken_there pool.places text (omega (arith, room)) in (
      (cell.Str t.0.0, record { places = t.0.1; is_used = true }),
      ap (option_map (λ (r : ℕ × List Place). (cell.Str r.0, record { places = r.1; is_used = true }))) t.1,
      omega (arith, t.2),
    )

texts_first : (v : Value) (vs : List Value) → texts_in (v ∷ vs) ≡ texts_in (v ∷ []) + texts_in vs
texts_first Null vs = omega arith
texts_first (Int n) vs = omega arith
texts_first (Str text) vs = omega arith
texts_first Binary vs = omega arith

abbrev pub CellsPut : PoolInUse → List Value → Type 0
CellsPut pool vs = (r : List ValueRef × PoolInUse) × (in_turn (cell_put true) pool vs ≡ Some r) × (length r.1.places ≤ length pool.places + texts_in vs)

pub all_put_there : (pool : PoolInUse) (vs : List Value) → length pool.places + texts_in vs ≤ 16777215 → CellsPut pool vs
all_put_there pool [] room = (([], pool), refl, omega arith)
all_put_there pool (v ∷ vs) room =
    let one = put_there pool v (omega (arith, room, texts_first v vs)) in
    let others = all_put_there one.0.1 vs (omega (arith, room, texts_first v vs, one.2)) in
    ((one.0.0 ∷ others.0.0, others.0.1), rw (one.1, others.1) refl, omega (arith, texts_first v vs, one.2, others.2))

-- giving back takes no place away
back_long : (places : List Place) (i : ℕ) (o : Option Place) → length (unwrap_or (option_and_then (λ (p : Place). cond (p.count == 0) None (Some (set places i (lowered p)))) o) places) ≡ length places
back_long places i None = refl
back_long places i (Some p) = by_test (p.count == 0) (λ t. rw t refl) (λ t. rw t (length-set places i (lowered p)))

pub released_long : (pool : PoolInUse) (c : ValueRef) → length (cell_released pool c).places ≡ length pool.places
released_long pool (cell.Str number) = back_long pool.places (number - 1) (slice_get pool.places (number - 1))
released_long pool cell.Null = refl
released_long pool (cell.Int n) = refl
released_long pool cell.Binary = refl

pub row_released_long : (pool : PoolInUse) (row : List ValueRef) → length (fold cell_released pool row).places ≡ length pool.places
row_released_long pool [] = refl
row_released_long pool (c ∷ row) = row_released_long (cell_released pool c) row ∙ released_long pool c
