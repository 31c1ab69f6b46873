-- The index of a page, as its sequences are entered one after another.
use Rattle.std.proofs.Common.{◌≡◌, ◌≢◌, ℕ, zero, suc, ◌+◌, ◌<◌, ◌≤◌, Bool, true, false, cond, ◌&&◌, eqb, nat_lt, List, length, get_or, Option, Some, None, is_some, slice_get, refl, sym, ap, subst, ◌∙◌, arith, add-one, eqb-true, get_or-set_same, get_or-set_other}
use Rattle.std.specs.Prelude.{is_none}
use Rattle.std.proofs.Math.ListN.{set, length-set}
use Rattle.std.proofs.lemmas.Bool.{and_parts, eq-eqb, lt-ltb, le-ltb, ltb-true, ltb-false}
use Rattle.std.proofs.lemmas.Option.{same_Some, slice_get-get_or, get_or_from_slice_get}
use Rattle.msi_base.proofs.OptionLemmas.{none_is, guard_held}
use Rattle.msi_base.proofs.BoolLemmas.{by_test, yes_is_no}
use Rattle.msi_code_pages.specs.declared.page.Page.{Page}
use Rattle.msi_code_pages.specs.Spelling.{written_character, holds, spells, least, number_of, IsIndex, is_free, with_first}

pub least_none : (p : ℕ → Bool) → least p 0 ≡ None
unfolding least
least_none p = refl

pub least_passes : (p : ℕ → Bool) (k n : ℕ) → least p k ≡ Some n → p n ≡ true
unfolding least
least_passes p zero n h = none_is h
least_passes p (suc k) n h =
    let either : Bool → Option ℕ = λ b. cond b (least p k) (cond (p k) (Some k) None) in
    by_test (is_some (least p k))
    (λ there. least_passes p k n (sym (ap either there) ∙ h))
    (λ none.
    let last = guard_held (p k) (Some k) n (sym (ap either none) ∙ h) in
    ap p (sym (same_Some k n last.1)) ∙ last.0)

least_more : (p : ℕ → Bool) (k : ℕ) → least p (k + 1) ≡ cond (is_some (least p k)) (least p k) (cond (p k) (Some k) None)
unfolding least
least_more p k = ap (least p) (add-one k)

or_none : {X : Type 0} (o : Option X) → cond (is_some o) o None ≡ o
or_none None = refl
or_none (Some x) = refl

-- a number that doesn't pass changes nothing, and neither does one behind another that does
least_passed_over : (p : ℕ → Bool) (k : ℕ) → p k ≡ false → least p (k + 1) ≡ least p k
least_passed_over p k fails =
    least_more p k ∙ ap (λ b. cond (is_some (least p k)) (least p k) (cond b (Some k) None)) fails ∙ or_none (least p k)

least_found : (p : ℕ → Bool) (k : ℕ) → is_some (least p k) ≡ true → least p (k + 1) ≡ least p k
least_found p k there = least_more p k ∙ ap (λ b. cond b (least p k) (cond (p k) (Some k) None)) there

least_last : (p : ℕ → Bool) (k : ℕ) → least p k ≡ None → p k ≡ true → least p (k + 1) ≡ Some k
least_last p k none passes =
    least_more p k
    ∙ ap (λ o. cond (is_some o) o (cond (p k) (Some k) None)) none
    ∙ ap (λ b. cond b (Some k) None) passes

-- what an index gives is the number of the character
pub looked_up : (page : Page) (numbers : List (Option ℕ)) (c : ℕ) (o : Option ℕ) → IsIndex page 0x10000 numbers
    → c < length numbers → o ≡ get_or numbers c o → o ≡ number_of page c
unfolding number_of
looked_up page numbers c o index within is =
    let size = index.size in
    let below : c < 0x10000 = omega arith in
    is ∙ get_or_from_slice_get numbers c (least (spells page c) 0x10000) o (index.entries c below)
    ∙ sym (ap (λ b. cond b (least (spells page c) 0x10000) None) (lt-ltb c 0x10000 below))

pub looked_past : (page : Page) (numbers : List (Option ℕ)) (c : ℕ) → IsIndex page 0x10000 numbers
    → length numbers ≤ c → None ≡ number_of page c
unfolding number_of
looked_past page numbers c index past =
    let size = index.size in
    let beyond : 0x10000 ≤ c = omega arith in
    sym (ap (λ b. cond b (least (spells page c) 0x10000) None) (le-ltb c 0x10000 beyond))

-- an index of nothing is that of no sequence
pub empty : (page : Page) (numbers : List (Option ℕ)) → length numbers ≡ 0x10000
    → ((c : ℕ) → c < 0x10000 → slice_get numbers c ≡ Some None) → IsIndex page 0 numbers
empty page numbers size none = record {
  size = size;
  entries = λ c lt. none c lt ∙ ap Some (sym (least_none (spells page c)));
}

-- an index stays as it is where the number is none, or not the first, for each character
kept : (page : Page) (k : ℕ) (numbers : List (Option ℕ)) → IsIndex page k numbers
    → ((c : ℕ) → c < 0x10000 → least (spells page c) (k + 1) ≡ least (spells page c) k) → IsIndex page (k + 1) numbers
kept page k numbers index same = record {
  size = index.size;
  entries = λ c lt. index.entries c lt ∙ ap Some (sym (same c lt));
}

-- a number spells its own character alone
other_not : (page : Page) (k c : ℕ) (o : Option ℕ) → written_character page k ≡ o → holds c o ≡ false → spells page c k ≡ false
unfolding spells
other_not page k c o is other = ap (holds c) is ∙ other

-- a number that spells none is entered nowhere
pub unmapped : (page : Page) (k : ℕ) (numbers : List (Option ℕ)) → IsIndex page k numbers → written_character page k ≡ None
    → IsIndex page (k + 1) numbers
unmapped page k numbers index none =
    kept page k numbers index (λ c lt. least_passed_over (spells page c) k (other_not page k c None none refl))

differs : (d c : ℕ) → c ≢ d → eqb d c ≡ false
differs d c ne = by_test (eqb d c) (λ same. absurd (ne (sym (eqb-true d c same)))) (λ other. other)

outside : (page : Page) (k d : ℕ) (numbers : List (Option ℕ)) → IsIndex page k numbers → written_character page k ≡ Some d
    → 0x10000 ≤ d → IsIndex page (k + 1) numbers
outside page k d numbers index is past =
    kept page k numbers index (λ c lt. least_passed_over (spells page c) k (other_not page k c (Some d) is (differs d c (λ same. omega arith))))

taken : (page : Page) (k d n : ℕ) (numbers : List (Option ℕ)) → IsIndex page k numbers → written_character page k ≡ Some d
    → slice_get numbers d ≡ Some (Some n) → d < 0x10000 → IsIndex page (k + 1) numbers
taken page k d n numbers index is at in_range =
    let first : least (spells page d) k ≡ Some n = same_Some _ _ (sym (index.entries d in_range) ∙ at) in
    kept page k numbers index (λ c lt. by_test (eqb d c)
    (λ same. subst (λ e. least (spells page e) (k + 1) ≡ least (spells page e) k) (eqb-true d c same) (least_found (spells page d) k (ap is_some first)))
    (λ other. least_passed_over (spells page c) k (other_not page k c (Some d) is other)))

itself : (page : Page) (k d : ℕ) → written_character page k ≡ Some d → spells page d k ≡ true
unfolding spells
itself page k d is = ap (holds d) is ∙ eq-eqb d d refl

-- the number is entered at its character, where none stands yet
entered : (page : Page) (k d : ℕ) (numbers : List (Option ℕ)) → IsIndex page k numbers
    → written_character page k ≡ Some d → d < 0x10000 → get_or numbers d None ≡ None
    → IsIndex page (k + 1) (set numbers d (Some k))
entered page k d numbers index is lt free =
    let size = index.size in
    let within : d < length numbers = omega arith in
    let none : least (spells page d) k ≡ None = sym (get_or_from_slice_get numbers d _ None (index.entries d lt)) ∙ free in
    record {
      size = length-set numbers d (Some k) ∙ size;
      entries = λ c below.
          let inside : c < length (set numbers d (Some k)) = omega (arith, length-set numbers d (Some k)) in
          slice_get-get_or (set numbers d (Some k)) c None inside
          ∙ ap Some (by_test (eqb d c)
          (λ same.
          subst (λ e. get_or (set numbers d (Some k)) e None ≡ least (spells page e) (k + 1)) (eqb-true d c same)
          (get_or-set_same numbers d (Some k) None within ∙ sym (least_last (spells page d) k none (itself page k d is))))
          (λ other.
          let ne : c ≢ d = λ same. yes_is_no (eqb d c) (eq-eqb d c (sym same)) other in
          get_or-set_other numbers d c (Some k) None ne
          ∙ get_or_from_slice_get numbers c _ None (index.entries c below)
          ∙ sym (least_passed_over (spells page c) k (other_not page k c (Some d) is other))));
    }

none_by : (o : Option ℕ) → is_none o ≡ true → o ≡ None
none_by None h = refl
none_by (Some n) h = absurd cc

some_by : (o : Option ℕ) → is_none o ≡ false → (n : ℕ) × (o ≡ Some n)
some_by None h = absurd cc
some_by (Some n) h = (n, refl)

-- the place of its character is past the end, or a number stands there
not_free : (page : Page) (k d : ℕ) (numbers : List (Option ℕ)) → IsIndex page k numbers → written_character page k ≡ Some d
    → is_free numbers d ≡ false → IsIndex page (k + 1) numbers
not_free page k d numbers index is busy = by_test (nat_lt d (length numbers))
    (λ within.
    let size = index.size in
    let lt : d < length numbers = ltb-true d (length numbers) within in
    let below : d < 0x10000 = omega arith in
    let there = some_by (get_or numbers d None) (sym (ap (λ b. b && is_none (get_or numbers d None)) within) ∙ busy) in
    taken page k d there.0 numbers index is (slice_get-get_or numbers d None lt ∙ ap Some there.1) below)
    (λ past.
    let size = index.size in
    let le : length numbers ≤ d = ltb-false d (length numbers) past in
    let beyond : 0x10000 ≤ d = omega arith in
    outside page k d numbers index is beyond)

-- a number is put where none stands yet
pub put : (page : Page) (k d : ℕ) (numbers after : List (Option ℕ)) → IsIndex page k numbers
    → written_character page k ≡ Some d → after ≡ with_first numbers d k → IsIndex page (k + 1) after
put page k d numbers after index is at = by_test (is_free numbers d)
    (λ free.
    let size = index.size in
    let parts = and_parts (nat_lt d (length numbers)) (is_none (get_or numbers d None)) free in
    let lt : d < length numbers = ltb-true d (length numbers) parts.0 in
    let below : d < 0x10000 = omega arith in
    subst (λ ns. IsIndex page (k + 1) ns) (sym (at ∙ ap (λ b. cond b (set numbers d (Some k)) numbers) free))
    (entered page k d numbers index is below (none_by (get_or numbers d None) parts.1)))
    (λ busy.
    subst (λ ns. IsIndex page (k + 1) ns) (sym (at ∙ ap (λ b. cond b (set numbers d (Some k)) numbers) busy))
    (not_free page k d numbers index is busy))
