-- A text that is taken stands at the first place that fits.
use Rattle.std.proofs.Common.{◌≡◌, ◌≢◌, ◌⊎◌, ℕ, ◌+◌, ◌-◌, ◌<◌, Bool, true, false, ◌||◌, List, [], ◌∷◌, ◌++◌, length, set, max, Option, Some, None, arith, rules, ap, refl, inl, inr, length-set, length-append}
use Rattle.std.specs.Prelude.{position, slice_get, slice_index_or, unwrap_or, nat_lt}
use Rattle.std.proofs.lemmas.Grind.{common_steps}
use Rattle.std.proofs.lemmas.Bool.Decides.{nat_tests}
use Rattle.std.specs.Option.{option_map_or}
use Rattle.std.proofs.lemmas.List.Quantifiers.{position-Some}
use Rattle.std.proofs.lemmas.Option.{cond_some, some_pair_parts, slice_get-get_or, slice_get_past, gets}
use Rattle.msi_pool_places.specs.Pool.{Place}
use Rattle.msi_pool_places.specs.FirstFit.{is_fit, first_fit, count_of, with_text_at, most_places, taken}
use Rattle.msi_pool_places.specs.FirstFitLaws.{text_at, Takes}
use Rattle.msi_pool_places.proofs.FirstFitLemmas.{fit_has_room, no_place}

-- the text of a place, if there is one
abbrev text_of : Option Place → List ℕ
text_of None = []
text_of (Some p) = p.text

map_or-text_of : (o : Option Place) → option_map_or (λ p. p.text) o [] ≡ text_of o
map_or-text_of None = refl
map_or-text_of (Some p) = refl

text_at-of : (places : List Place) (number : ℕ) → text_at places number ≡ text_of (slice_get places (number - 1))
text_at-of places number = map_or-text_of (slice_get places (number - 1))

-- the place i, counted from 0, has the number i + 1
takes_at : (text : List ℕ) (before after : List Place) (i : ℕ)
    → slice_get after i ≡ Some (record { text = text; count = count_of (slice_get before i) + 1 })
    → count_of (slice_get before i) < 65535
    → (0 < count_of (slice_get before i) → text_of (slice_get before i) ≡ text)
    → ((k : ℕ) → k ≢ i → slice_get after k ≡ slice_get before k)
    → length after ≡ max (length before) (i + 1)
    → Takes text (i + 1) before after
takes_at text before after i place room kept others many = let e : i + 1 - 1 ≡ i = omega arith in record {
  from_one = omega arith;
  place = rw e place;
  room = rw e room;
  kept = rw (text_at-of, e) kept;
  others = λ k k_other. others k (λ same. k_other (ap (λ n. n + 1) same));
  many = many;
}

pub set_other : (places : List Place) (i : ℕ) (p : Place) (k : ℕ) → k ≢ i → slice_get (set places i p) k ≡ slice_get places k
set_other places i p k k_other = grind (arith, common_steps, gets)

push_other : (places : List Place) (p : Place) (k : ℕ) → k ≢ length places → slice_get (places ++ p ∷ []) k ≡ slice_get places k
push_other places p k k_other = grind (arith, common_steps, gets)

pub set_at_place : (places : List Place) (i : ℕ) (p : Place) → i < length places → slice_get (set places i p) i ≡ Some p
set_at_place places i p inside = grind (arith, common_steps, gets)

push_at_place : (places : List Place) (p : Place) → slice_get (places ++ p ∷ []) (length places) ≡ Some p
push_at_place places p = grind (arith, common_steps, gets)

fit_kept : (text : List ℕ) (p : Place) → is_fit text p ≡ true → 0 < p.count → p.text ≡ text
fit_kept text p h used = grind (arith, rules)

set_takes : (places : List Place) (text : List ℕ) (i : ℕ) → i < length places → is_fit text (slice_index_or places i no_place) ≡ true
    → Takes text (i + 1) places (set places i (record { text = text; count = count_of (slice_get places i) + 1 }))
set_takes places text i inside fits = let e = slice_get-get_or places i no_place inside in
    takes_at text places _ i (set_at_place places i _ inside) (rw e (fit_has_room text _ fits)) (rw e (fit_kept text _ fits)) (set_other places i _)
    (rw length-set (omega arith))

push_takes : (places : List Place) (text : List ℕ) → Takes text (length places + 1) places (places ++ record { text = text; count = 1 } ∷ [])
push_takes places text = let e = slice_get_past places (length places) (omega arith) in
    takes_at text places _ (length places) (rw e (push_at_place places _)) (rw e (omega arith)) (rw e (λ h. absurd (omega (arith, h)))) (push_other places _)
    (rw length-append (omega arith))

-- where i is one past the end, or a place that fits
put_takes : (places : List Place) (text : List ℕ) (i : ℕ) → ((i < length places) × (is_fit text (slice_index_or places i no_place) ≡ true)) ⊎ (i ≡ length places)
    → Takes text (i + 1) places (with_text_at places i text)
put_takes places text i (inl (inside, fits)) =
    let before_end : nat_lt i (length places) ≡ true = grind (arith, nat_tests) in rw before_end (set_takes places text i inside fits)
put_takes places text i (inr at_end) =
    let at_end_of : nat_lt (length places) (length places) ≡ false = grind (arith, nat_tests) in rw (at_end, at_end_of) (push_takes places text)

-- the first fit is such an i
first_fit-is : (text : List ℕ) (places : List Place) (o : Option ℕ) → position (is_fit text) places ≡ o
    → ((unwrap_or o (length places) < length places) × (is_fit text (slice_index_or places (unwrap_or o (length places)) no_place) ≡ true)) ⊎ (unwrap_or o (length places) ≡ length places)
first_fit-is text places None e = inr refl
first_fit-is text places (Some i) e = let found = position-Some (is_fit text) places i no_place e in inl (found.0, found.1)

pub taken_takes : (long : Bool) (before after : List Place) (text : List ℕ) (number : ℕ)
    → taken long before text ≡ Some (number, after) → Takes text number before after
taken_takes long before after text number e =
    let i = first_fit text before in
    let answered = cond_some (nat_lt i (length before) || nat_lt i (most_places long)) (i + 1, with_text_at before i text) (number, after) e in
    let parts = some_pair_parts (i + 1) number (with_text_at before i text) after (ap Some (answered.1)) in
    rw (← parts.0, ← parts.1) (put_takes before text i (first_fit-is text before (position (is_fit text) before) refl))
