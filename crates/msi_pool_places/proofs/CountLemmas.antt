-- Counts keep to 16 bits.
use Rattle.std.proofs.Common.{◌≡◌, ℕ, zero, suc, ◌+◌, ◌-◌, ◌^◌, ◌<◌, ◌≤◌, Bool, true, ltb, ◌||◌, List, [], ◌∷◌, ◌++◌, length, set, max, Option, Some, None, inl, inr, refl, ap, subst, arith, rules}
use Rattle.std.specs.Prelude.{◌==◌, if◌then◌else◌, nat_lt, option_and_then, position, slice_get}
use Rattle.std.proofs.lemmas.Bool.{cases_Bool, ltb-true}
use Rattle.std.proofs.lemmas.Option.{cond_some, same_Some, some_pair_parts}
use Rattle.msi_base.proofs.OptionLemmas.{guard_passed}
use Rattle.msi_pool_places.specs.Pool.{Place, CountsFit, without_unnamed_texts}
use Rattle.msi_pool_places.specs.FirstFit.{is_fit, count_of, first_fit, with_text_at, lowered, most_places}
use Rattle.msi_pool_places.specs.FirstFitLaws.{TakenPlacesStayInRange, GivenBackStaysInRange}
use Rattle.msi_pool_places.proofs.FirstFitLemmas.{first_fit-room}

pub CountsFit-push : (places : List Place) (p : Place) → CountsFit places → p.count < 2 ^ 16 → CountsFit (places ++ p ∷ [])
CountsFit-push [] p fit few = (few, tt)
CountsFit-push (q ∷ qs) p fit few = (fit.0, CountsFit-push qs p fit.1 few)

CountsFit-set : (places : List Place) (i : ℕ) (p : Place) → CountsFit places → p.count < 2 ^ 16 → CountsFit (set places i p)
CountsFit-set [] i p fit few = tt
CountsFit-set (q ∷ qs) zero p fit few = (few, fit.1)
CountsFit-set (q ∷ qs) (suc i) p fit few = (fit.0, CountsFit-set qs i p fit.1 few)

-- the count of a place, or 0 past the end
CountsFit-at : (places : List Place) (i : ℕ) → CountsFit places → count_of (slice_get places i) < 2 ^ 16
CountsFit-at [] i fit = omega arith
CountsFit-at (q ∷ qs) zero fit = fit.0
CountsFit-at (q ∷ qs) (suc i) fit = CountsFit-at qs i fit.1

pub CountsFit-with_text_at : (places : List Place) (i : ℕ) (text : List ℕ) → (i < length places → count_of (slice_get places i) < 65535)
    → CountsFit places → CountsFit (with_text_at places i text)
CountsFit-with_text_at places i text room fit = elim (cases_Bool (ltb i (length places))) [
  | inl inside ↦ rw inside (CountsFit-set places i _ fit (omega (arith, room (ltb-true i (length places) inside))))
  | inr outside ↦ rw outside (CountsFit-push places _ fit (omega arith))
]

pub CountsFit-given_back : GivenBackStaysInRange
CountsFit-given_back before after number given fit = lowered_at (slice_get before (number - 1)) (CountsFit-at before (number - 1) fit) given
  where
    lowered_at : (o : Option Place) → count_of o < 2 ^ 16
        → option_and_then (λ p. if p.count == 0 then None else Some (set before (number - 1) (lowered p))) o ≡ Some after → CountsFit after
    lowered_at None few given = absurd cc
    lowered_at (Some p) few given =
        let is = same_Some _ _ (guard_passed (p.count == 0) (Some (set before (number - 1) (lowered p))) after given).1 in
        subst CountsFit is (CountsFit-set before (number - 1) (lowered p) fit (omega (arith, few)))

in_range : (i len most : ℕ) → (nat_lt i len || nat_lt i most) ≡ true → i + 1 ≤ max len most
in_range i len most h = grind (arith, rules)

pub taken_in_range : TakenPlacesStayInRange
taken_in_range long before after text number taken_is =
    let i = first_fit text before in
    let answered = cond_some (nat_lt i (length before) || nat_lt i (most_places long)) (i + 1, with_text_at before i text) (number, after) taken_is in
    let parts = some_pair_parts (i + 1) number (with_text_at before i text) after (ap Some (answered.1)) in
    let room = first_fit-room text before (position (is_fit text) before) refl in
    rw (← parts.0, ← parts.1) (in_range i (length before) (most_places long) answered.0, CountsFit-with_text_at before i text room)

-- the places whose texts were lost
pub CountsFit-without : (marks : List Bool) (places : List Place) → CountsFit places → CountsFit (without_unnamed_texts marks places)
CountsFit-without [] places fit = tt
CountsFit-without (m ∷ ms) [] fit = tt
CountsFit-without (m ∷ ms) (p ∷ ps) fit = (fit.0, CountsFit-without ms ps fit.1)
