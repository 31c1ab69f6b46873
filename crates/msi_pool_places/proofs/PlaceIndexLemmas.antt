-- The indexes follow the places, one change after the other.
use Rattle.std.proofs.Common.{◌≡◌, ℕ, zero, suc, ◌+◌, ◌<◌, Bool, true, false, not, ◌&&◌, ◌||◌, ◌==◌, List, [], ◌∷◌, ◌++◌, Option, Some, None, inl, inr, refl, sym, ap, ap₂, subst, ◌∙◌, take, take-suc, length-take-le, add-one, get_or, length, set, slice_get, bytes_eq, nat_lt, if◌then◌else◌, arith, true≢false}
use Rattle.std.proofs.Math.Bool.{and-false}
use Rattle.std.proofs.lemmas.Bool.{cases_Bool, eqb-true, ltb-true, lt-ltb, eq-eqb, ne_eqb, and_parts}
use Rattle.std.proofs.lemmas.Bool.{cases_lt}
use Rattle.std.proofs.lemmas.Bool.Decides.{nat_tests}
use Rattle.std.proofs.lemmas.Slice.Eq.{bytes_eq-Decides}
use Rattle.std.proofs.lemmas.Option.{slice_get_past, slice_get_within}
use Rattle.msi_pool_places.specs.Pool.{Place, forgotten, without_unnamed_texts}
use Rattle.msi_pool_places.specs.FirstFit.{with_text_at}
use Rattle.msi_pool_places.specs.declared.texts.Entry.{Entry}
use Rattle.msi_pool_places.specs.PoolIndexes.{is_free, has_room_for, is_among, AreFree}
use Rattle.msi_pool_places.specs.TextIndexes.{is_entered, is_same, AreOpen}

-- one place is another now
abbrev pub ChangesAt : ℕ → Place → List Place → List Place → Type 0
ChangesAt at q before after = (i : ℕ) → slice_get after i ≡ (if i == at then Some q else slice_get before i)

both_after : (i at : ℕ) → (i == at) ≡ (suc i == suc at)
both_after i at = grind (arith, nat_tests)

further : (i : ℕ) (q : Place) (o : Option Place) → o ≡ (if suc i == 0 then Some q else o)
further i q o = ap (λ b. if b then Some q else o) (sym (ne_eqb (suc i) 0 (λ e. omega (arith, e))))

before : (at : ℕ) (q : Place) (o : Option Place) → o ≡ (if 0 == suc at then Some q else o)
before at q o = ap (λ b. if b then Some q else o) (sym (ne_eqb 0 (suc at) (λ e. omega (arith, e))))

pub set_changes : (places : List Place) (at : ℕ) (q : Place) → at < length places → ChangesAt at q places (set places at q)
set_changes [] at q h i = absurd (omega (arith, h))
set_changes (p ∷ ps) zero q h zero = refl
set_changes (p ∷ ps) zero q h (suc i) = further i q (slice_get ps i)
set_changes (p ∷ ps) (suc at) q h zero = before at q (Some p)
set_changes (p ∷ ps) (suc at) q h (suc i) = set_changes ps at q (omega (arith, h)) i ∙ ap (λ b. if b then Some q else slice_get ps i) (both_after i at)

pub push_changes : (places : List Place) (q : Place) → ChangesAt (length places) q places (places ++ q ∷ [])
push_changes [] q zero = refl
push_changes [] q (suc i) = further i q None
push_changes (p ∷ ps) q zero = before (length ps) q (Some p)
push_changes (p ∷ ps) q (suc i) = push_changes ps q i ∙ ap (λ b. if b then Some q else slice_get ps i) (both_after i (length ps))

changed : (at : ℕ) (q : Place) (before after : List Place) (i : ℕ) → ChangesAt at q before after → (i == at) ≡ true → slice_get after i ≡ Some q
changed at q before after i changes same = changes i ∙ ap (λ b. if b then Some q else slice_get before i) same

kept : (at : ℕ) (q : Place) (before after : List Place) (i : ℕ) → ChangesAt at q before after → (i == at) ≡ false → slice_get after i ≡ slice_get before i
kept at q before after i changes other = changes i ∙ ap (λ b. if b then Some q else slice_get before i) other

-- what the places say of each number is what the index has, where it has it at the place that changed and else as before
free_from : (at : ℕ) (q : Place) (before after : List Place) (new : ℕ → Bool) → ChangesAt at q before after
    → (new at ≡ is_free (Some q)) → ((i : ℕ) → (i == at) ≡ false → new i ≡ is_free (slice_get before i))
    → (i : ℕ) → new i ≡ is_free (slice_get after i)
free_from at q before after new changes here others i = elim (cases_Bool (i == at)) [
  | inl same ↦ ap new (eqb-true i at same) ∙ here ∙ sym (ap is_free (changed at q before after i changes same))
  | inr other ↦ others i other ∙ sym (ap is_free (kept at q before after i changes other))
]

open_from : (at : ℕ) (q : Place) (before after : List Place) (new : List ℕ → ℕ → Bool) → ChangesAt at q before after
    → ((t : List ℕ) → new t at ≡ has_room_for t (Some q)) → ((t : List ℕ) (i : ℕ) → (i == at) ≡ false → new t i ≡ has_room_for t (slice_get before i))
    → (t : List ℕ) (i : ℕ) → new t i ≡ has_room_for t (slice_get after i)
open_from at q before after new changes here others t i = elim (cases_Bool (i == at)) [
  | inl same ↦ ap (new t) (eqb-true i at same) ∙ here t ∙ sym (ap (has_room_for t) (changed at q before after i changes same))
  | inr other ↦ others t i other ∙ sym (ap (has_room_for t) (kept at q before after i changes other))
]

itself : (at : ℕ) → (at == at) ≡ true
itself at = eq-eqb at at refl

-- the three ways of the index of free places
pub free_in : (at : ℕ) (q : Place) (before after : List Place) (old new : List ℕ) → ChangesAt at q before after → AreFree old before
    → is_free (Some q) ≡ true → ((i : ℕ) → is_among new i ≡ ((i == at) || is_among old i)) → AreFree new after
free_in at q before after old new changes are is_so told = free_from at q before after (is_among new) changes
    (told at ∙ ap (λ b. b || is_among old at) (itself at) ∙ sym is_so)
    (λ i other. told i ∙ ap (λ b. b || is_among old i) other ∙ are i)

pub free_out : (at : ℕ) (q : Place) (before after : List Place) (old new : List ℕ) → ChangesAt at q before after → AreFree old before
    → is_free (Some q) ≡ false → ((i : ℕ) → is_among new i ≡ (not (i == at) && is_among old i)) → AreFree new after
free_out at q before after old new changes are no_more told = free_from at q before after (is_among new) changes
    (told at ∙ ap (λ b. not b && is_among old at) (itself at) ∙ sym no_more)
    (λ i other. told i ∙ ap (λ b. not b && is_among old i) other ∙ are i)

pub free_kept : (at : ℕ) (q : Place) (before after : List Place) (old : List ℕ) → ChangesAt at q before after → AreFree old before
    → is_free (Some q) ≡ false → is_free (slice_get before at) ≡ false → AreFree old after
free_kept at q before after old changes are no_more not_before = free_from at q before after (is_among old) changes
    (are at ∙ not_before ∙ sym no_more) (λ i other. are i)

and_true : (b : Bool) → (b && true) ≡ b
and_true true = refl
and_true false = refl

or_false : (b : Bool) → (b || false) ≡ b
or_false true = refl
or_false false = refl

not_itself : (b : Bool) → (not b && b) ≡ false
not_itself true = refl
not_itself false = refl

same_here : (t text : List ℕ) (at : ℕ) → is_same t at text at ≡ bytes_eq text t
same_here t text at = ap (λ b. bytes_eq text t && b) (itself at) ∙ and_true (bytes_eq text t)

same_elsewhere : (t text : List ℕ) (i at : ℕ) → (i == at) ≡ false → is_same t i text at ≡ false
same_elsewhere t text i at other = ap (λ b. bytes_eq text t && b) other ∙ and-false (bytes_eq text t)

-- the three ways of the index of texts
pub open_in : (at : ℕ) (q : Place) (text : List ℕ) (before after : List Place) (old new : List Entry) → ChangesAt at q before after → AreOpen old before
    → ((t : List ℕ) → has_room_for t (Some q) ≡ bytes_eq text t) → ((t : List ℕ) → has_room_for t (slice_get before at) ≡ false)
    → ((t : List ℕ) (i : ℕ) → is_entered new t i ≡ (is_same t i text at || is_entered old t i)) → AreOpen new after
open_in at q text before after old new changes are now_is not_before told = open_from at q before after (is_entered new) changes
    (λ t. told t at ∙ ap (λ b. b || is_entered old t at) (same_here t text at) ∙ ap (λ b. bytes_eq text t || b) (are t at ∙ not_before t) ∙ or_false (bytes_eq text t) ∙ sym (now_is t))
    (λ t i other. told t i ∙ ap (λ b. b || is_entered old t i) (same_elsewhere t text i at other) ∙ are t i)

pub open_out : (at : ℕ) (q : Place) (text : List ℕ) (before after : List Place) (old new : List Entry) → ChangesAt at q before after → AreOpen old before
    → ((t : List ℕ) → has_room_for t (Some q) ≡ false) → ((t : List ℕ) → has_room_for t (slice_get before at) ≡ bytes_eq text t)
    → ((t : List ℕ) (i : ℕ) → is_entered new t i ≡ (not (is_same t i text at) && is_entered old t i)) → AreOpen new after
open_out at q text before after old new changes are no_more was told = open_from at q before after (is_entered new) changes
    (λ t. told t at ∙ ap (λ b. not b && is_entered old t at) (same_here t text at) ∙ ap (λ b. not (bytes_eq text t) && b) (are t at ∙ was t) ∙ not_itself (bytes_eq text t) ∙ sym (no_more t))
    (λ t i other. told t i ∙ ap (λ b. not b && is_entered old t i) (same_elsewhere t text i at other) ∙ are t i)

pub open_kept : (at : ℕ) (q : Place) (before after : List Place) (old new : List Entry) → ChangesAt at q before after → AreOpen old before
    → ((t : List ℕ) → has_room_for t (Some q) ≡ has_room_for t (slice_get before at))
    → ((t : List ℕ) (i : ℕ) → is_entered new t i ≡ is_entered old t i) → AreOpen new after
open_kept at q before after old new changes are as_before told = open_from at q before after (is_entered new) changes
    (λ t. told t at ∙ are t at ∙ sym (as_before t)) (λ t i other. told t i ∙ are t i)

-- entered and taken out again
pub open_undone : (at : ℕ) (text : List ℕ) (places : List Place) (old mid new : List Entry) → AreOpen old places → slice_get places at ≡ None
    → ((t : List ℕ) (i : ℕ) → is_entered mid t i ≡ (is_same t i text at || is_entered old t i))
    → ((t : List ℕ) (i : ℕ) → is_entered new t i ≡ (not (is_same t i text at) && is_entered mid t i)) → AreOpen new places
open_undone at text places old mid new are past entered left t i = left t i ∙ ap (λ b. not (is_same t i text at) && b) (entered t i) ∙ elim (cases_Bool (i == at)) [
  | inl same ↦ at_it (eqb-true i at same)
  | inr other ↦ ap (λ b. not b && (b || is_entered old t i)) (same_elsewhere t text i at other) ∙ are t i
]
  where
    both : (b x : Bool) → x ≡ false → (not b && (b || x)) ≡ x
    both true x h = sym h
    both false x h = refl

    at_it : i ≡ at → (not (is_same t i text at) && (is_same t i text at || is_entered old t i)) ≡ has_room_for t (slice_get places i)
    at_it same = both (is_same t i text at) (is_entered old t i) (are t i ∙ ap (has_room_for t) (ap (slice_get places) same ∙ past)) ∙ are t i

-- which places can be named once more
pub room_of : (t : List ℕ) (p : Place) → 0 < p.count → p.count < 65535 → has_room_for t (Some p) ≡ bytes_eq p.text t
room_of t p used few = rw (lt-ltb 0 p.count used, lt-ltb p.count 65535 few) refl

pub no_room_free : (t : List ℕ) (p : Place) → p.count ≡ 0 → has_room_for t (Some p) ≡ false
no_room_free t p none = rw none refl

pub no_room_full : (t : List ℕ) (p : Place) → p.count ≡ 65535 → has_room_for t (Some p) ≡ false
no_room_full t p full = rw full refl

pub not_free : (p : Place) → 0 < p.count → is_free (Some p) ≡ false
not_free p used = ne_eqb p.count 0 (λ none. omega (arith, used, none))

-- one place more in both indexes
pub free_pushed : (at : ℕ) (p : Place) (before after : List Place) (old new : List ℕ) → ChangesAt at p before after → slice_get before at ≡ None → AreFree old before
    → ((i : ℕ) → is_among new i ≡ (((i == at) && is_free (Some p)) || is_among old i)) → AreFree new after
free_pushed at p before after old new changes past are told = free_from at p before after (is_among new) changes
    (told at ∙ ap (λ b. (b && is_free (Some p)) || is_among old at) (itself at) ∙ ap (λ b. is_free (Some p) || b) (are at ∙ ap is_free past) ∙ or_false (is_free (Some p)))
    (λ i other. told i ∙ ap (λ b. (b && is_free (Some p)) || is_among old i) other ∙ are i)

pub open_pushed : (at : ℕ) (p : Place) (before after : List Place) (old new : List Entry) → ChangesAt at p before after → slice_get before at ≡ None → AreOpen old before
    → ((t : List ℕ) (i : ℕ) → is_entered new t i ≡ (((i == at) && has_room_for t (Some p)) || is_entered old t i)) → AreOpen new after
open_pushed at p before after old new changes past are told = open_from at p before after (is_entered new) changes
    (λ t. told t at ∙ ap (λ b. (b && has_room_for t (Some p)) || is_entered old t at) (itself at) ∙ ap (λ b. has_room_for t (Some p) || b) (are t at ∙ ap (has_room_for t) past) ∙ or_false (has_room_for t (Some p)))
    (λ t i other. told t i ∙ ap (λ b. (b && has_room_for t (Some p)) || is_entered old t i) other ∙ are t i)

free_no_room : (t : List ℕ) (o : Option Place) → is_free o ≡ true → has_room_for t o ≡ false
free_no_room t None h = refl
free_no_room t (Some p) h = no_room_free t p (eqb-true p.count 0 h)

pub free_within : (places : List Place) (i : ℕ) → is_free (slice_get places i) ≡ true → i < length places
free_within places i h = elim (cases_lt i (length places)) [
  | inl less ↦ less
  | inr past ↦ absurd (true≢false (sym h ∙ ap is_free (slice_get_past places i past)))
]

pub record Room (text : List ℕ) (p : Place) : Type 0 where
  pub used : 0 < p.count
  pub few : p.count < 65535
  pub same : p.text ≡ text

pub room_parts : (text : List ℕ) (p : Place) → has_room_for text (Some p) ≡ true → Room text p
room_parts text p h = let a = and_parts _ _ h in let b = and_parts _ _ a.1 in
    record { used = ltb-true 0 p.count a.0; few = ltb-true p.count 65535 b.0; same = (bytes_eq-Decides p.text text).0 b.1 }

-- the indexes after each change of the places
pub record Follows (free : List ℕ) (entries : List Entry) (places : List Place) : Type 0 where
  pub are_free : AreFree free places
  pub are_open : AreOpen entries places

pub after_fill : (places after : List Place) (at : ℕ) (text : List ℕ) (q : Place) (free left : List ℕ) (old new : List Entry)
    → is_free (slice_get places at) ≡ true → q.count ≡ 1 → q.text ≡ text → after ≡ set places at q
    → AreFree free places → AreOpen old places
    → ((i : ℕ) → is_among left i ≡ (not (i == at) && is_among free i))
    → ((t : List ℕ) (i : ℕ) → is_entered new t i ≡ (is_same t i text at || is_entered old t i)) → Follows left new after
after_fill places after at text q free left old new was one has is are_free are_open removed entered = rw is (
    let changes = set_changes places at q (free_within places at was) in
    record {
      are_free = free_out at q places (set places at q) free left changes are_free (not_free q (omega (arith, one))) removed;
      are_open = open_in at q text places (set places at q) old new changes are_open (λ t. room_of t q (omega (arith, one)) (omega (arith, one)) ∙ ap (λ u. bytes_eq u t) has) (λ t. free_no_room t (slice_get places at) was) entered;
    })

pub after_raise : (places after : List Place) (at : ℕ) (text : List ℕ) (p q : Place) (free : List ℕ) (old new : List Entry)
    → slice_get places at ≡ Some p → has_room_for text (slice_get places at) ≡ true → q.count ≡ p.count + 1 → q.text ≡ p.text → after ≡ set places at q
    → AreFree free places → AreOpen old places
    → ((t : List ℕ) (i : ℕ) → is_entered new t i ≡ (not ((q.count == 65535) && is_same t i text at) && is_entered old t i)) → Follows free new after
after_raise places after at text p q free old new held room more same is are_free are_open closed =
    let r = room_parts text p (ap (has_room_for text) (sym held) ∙ room) in
    let changes = set_changes places at q (slice_get_within places at p held) in
    rw is (record {
      are_free = free_kept at q places (set places at q) free changes are_free (not_free q (omega (arith, more))) (ap is_free held ∙ not_free p r.used);
      are_open = elim (cases_Bool (q.count == 65535)) [
        | inl full ↦ open_out at q text places (set places at q) old new changes are_open (λ t. no_room_full t q (eqb-true q.count 65535 full))
            (λ t. ap (has_room_for t) held ∙ room_of t p r.used r.few ∙ ap (λ u. bytes_eq u t) r.same)
            (λ t i. closed t i ∙ ap (λ b. not (b && is_same t i text at) && is_entered old t i) full)
        | inr open_still ↦ open_kept at q places (set places at q) old new changes are_open
            (λ t. room_of t q (omega (arith, more)) (below q.count p.count more r.few open_still) ∙ ap (λ u. bytes_eq u t) same ∙ sym (ap (has_room_for t) held ∙ room_of t p r.used r.few))
            (λ t i. closed t i ∙ ap (λ b. not (b && is_same t i text at) && is_entered old t i) open_still)
      ];
    })
  where
    below : (n m : ℕ) → n ≡ m + 1 → m < 65535 → (n == 65535) ≡ false → n < 65535
    below n m e l h = grind (arith, nat_tests)

pub after_empty : (places after : List Place) (at : ℕ) (text : List ℕ) (q : Place) (free more : List ℕ) (old new : List Entry)
    → slice_get places at ≡ Some (record { text = text; count = 1 }) → q.count ≡ 0 → after ≡ set places at q
    → AreFree free places → AreOpen old places
    → ((i : ℕ) → is_among more i ≡ ((i == at) || is_among free i))
    → ((t : List ℕ) (i : ℕ) → is_entered new t i ≡ (not (is_same t i text at) && is_entered old t i)) → Follows more new after
after_empty places after at text q free more old new held none is are_free are_open inserted removed =
    let changes = set_changes places at q (slice_get_within places at _ held) in
    rw is (record {
      are_free = free_in at q places (set places at q) free more changes are_free (eq-eqb q.count 0 none) inserted;
      are_open = open_out at q text places (set places at q) old new changes are_open (λ t. no_room_free t q none) (λ t. ap (has_room_for t) held) removed;
    })

pub after_lower : (places after : List Place) (at : ℕ) (q : Place) (free : List ℕ) (old new : List Entry)
    → slice_get places at ≡ Some (record { text = q.text; count = q.count + 1 }) → 0 < q.count → q.count < 65535 → after ≡ set places at q
    → AreFree free places → AreOpen old places
    → ((t : List ℕ) (i : ℕ) → is_entered new t i ≡ (((q.count == 65534) && is_same t i q.text at) || is_entered old t i)) → Follows free new after
after_lower places after at q free old new held used few is are_free are_open opened =
    let p : Place = record { text = q.text; count = q.count + 1 } in
    let changes = set_changes places at q (slice_get_within places at p held) in
    rw is (record {
      are_free = free_kept at q places (set places at q) free changes are_free (not_free q used) (ap is_free held ∙ not_free p (omega arith));
      are_open = elim (cases_Bool (q.count == 65534)) [
        | inl full ↦ open_in at q q.text places (set places at q) old new changes are_open (λ t. room_of t q used few)
            (λ t. ap (has_room_for t) held ∙ no_room_full t p (omega (arith, eqb-true q.count 65534 full)))
            (λ t i. opened t i ∙ ap (λ b. (b && is_same t i q.text at) || is_entered old t i) full)
        | inr open_still ↦ open_kept at q places (set places at q) old new changes are_open
            (λ t. room_of t q used few ∙ sym (ap (has_room_for t) held ∙ room_of t p (omega arith) (below q.count few open_still)))
            (λ t i. opened t i ∙ ap (λ b. (b && is_same t i q.text at) || is_entered old t i) open_still)
      ];
    })
  where
    below : (n : ℕ) → n < 65535 → (n == 65534) ≡ false → n + 1 < 65535
    below n l h = grind (arith, nat_tests)

pub after_append : (places after : List Place) (at : ℕ) (text : List ℕ) (q : Place) (free : List ℕ) (old new : List Entry)
    → at ≡ length places → q.count ≡ 1 → q.text ≡ text → after ≡ places ++ q ∷ [] → AreFree free places → AreOpen old places
    → ((t : List ℕ) (i : ℕ) → is_entered new t i ≡ (is_same t i text at || is_entered old t i)) → Follows free new after
after_append places after at text q free old new last one has is are_free are_open entered =
    let changes = subst (λ n. ChangesAt n q places (places ++ q ∷ [])) (sym last) (push_changes places q) in
    let past = slice_get_past places at (omega (arith, last)) in
    rw is (record {
      are_free = free_kept at q places (places ++ q ∷ []) free changes are_free (not_free q (omega (arith, one))) (ap is_free past);
      are_open = open_in at q text places (places ++ q ∷ []) old new changes are_open (λ t. room_of t q (omega (arith, one)) (omega (arith, one)) ∙ ap (λ u. bytes_eq u t) has) (λ t. ap (has_room_for t) past) entered;
    })

place_is : (p : Place) (t : List ℕ) (n : ℕ) → p.text ≡ t → p.count ≡ n → p ≡ record { text = t; count = n }
place_is p t n same many = ap₂ (λ u m. record { text = u; count = m }) same many

pub raised_is : (places after : List Place) (at : ℕ) (text : List ℕ) (p q : Place) → slice_get places at ≡ Some p → has_room_for text (slice_get places at) ≡ true
    → q.count ≡ p.count + 1 → q.text ≡ p.text → after ≡ set places at q → after ≡ with_text_at places at text
raised_is places after at text p q held room more same is =
    let r = room_parts text p (ap (has_room_for text) (sym held) ∙ room) in
    rw (lt-ltb at (length places) (slice_get_within places at p held), held) (is ∙ ap (set places at) (place_is q text (p.count + 1) (same ∙ r.same) more))

take_changes : (places : List Place) (n : ℕ) (p : Place) → n < length places → p ≡ get_or places n p → ChangesAt n p (take n places) (take (n + 1) places)
take_changes places n p inside is =
    let more : take (n + 1) places ≡ take n places ++ p ∷ [] = ap (λ m. take m places) (add-one n) ∙ take-suc places n p inside ∙ ap (λ (x : Place). take n places ++ x ∷ []) (sym is) in
    subst (ChangesAt n p (take n places)) (sym more) (subst (λ m. ChangesAt m p (take n places) (take n places ++ p ∷ [])) (length-take-le n places (omega (arith, inside))) (push_changes (take n places) p))

past_take : (places : List Place) (n : ℕ) → n < length places → slice_get (take n places) n ≡ None
past_take places n inside = slice_get_past (take n places) n (omega (arith, length-take-le n places (omega (arith, inside))))

-- the indexes of one place more
pub take_follows : (places : List Place) (n : ℕ) (p : Place) (free more : List ℕ) (old new : List Entry) → n < length places → p ≡ get_or places n p
    → AreFree free (take n places) → AreOpen old (take n places)
    → ((i : ℕ) → is_among more i ≡ (((i == n) && is_free (Some p)) || is_among free i))
    → ((t : List ℕ) (i : ℕ) → is_entered new t i ≡ (((i == n) && has_room_for t (Some p)) || is_entered old t i)) → Follows more new (take (n + 1) places)
take_follows places n p free more old new inside is are_free are_open freed opened = record {
  are_free = free_pushed n p (take n places) (take (n + 1) places) free more (take_changes places n p inside is) (past_take places n inside) are_free freed;
  are_open = open_pushed n p (take n places) (take (n + 1) places) old new (take_changes places n p inside is) (past_take places n inside) are_open opened;
}

-- texts of free places are in no index
same_room : (t : List ℕ) (m : Bool) (p : Place) → has_room_for t (Some (forgotten m p)) ≡ has_room_for t (Some p)
same_room t m p = elim (cases_Bool (p.count == 0)) [
  | inl none ↦ no_room_free t (forgotten m p) (eqb-true p.count 0 none) ∙ sym (no_room_free t p (eqb-true p.count 0 none))
  | inr used ↦ ap (λ b. nat_lt 0 p.count && (nat_lt p.count 65535 && bytes_eq (if b && not m then [] else p.text) t)) used
]

forgotten_free : (marks : List Bool) (places : List Place) (i : ℕ) → length marks ≡ length places → is_free (slice_get (without_unnamed_texts marks places) i) ≡ is_free (slice_get places i)
forgotten_free [] [] i same = refl
forgotten_free [] (p ∷ ps) i same = absurd (omega (arith, same))
forgotten_free (m ∷ ms) [] i same = absurd (omega (arith, same))
forgotten_free (m ∷ ms) (p ∷ ps) zero same = refl
forgotten_free (m ∷ ms) (p ∷ ps) (suc i) same = forgotten_free ms ps i (omega (arith, same))

forgotten_room : (t : List ℕ) (marks : List Bool) (places : List Place) (i : ℕ) → length marks ≡ length places → has_room_for t (slice_get (without_unnamed_texts marks places) i) ≡ has_room_for t (slice_get places i)
forgotten_room t [] [] i same = refl
forgotten_room t [] (p ∷ ps) i same = absurd (omega (arith, same))
forgotten_room t (m ∷ ms) [] i same = absurd (omega (arith, same))
forgotten_room t (m ∷ ms) (p ∷ ps) zero same = same_room t m p
forgotten_room t (m ∷ ms) (p ∷ ps) (suc i) same = forgotten_room t ms ps i (omega (arith, same))

pub after_forget : (marks : List Bool) (places after : List Place) (free : List ℕ) (entries : List Entry) → length marks ≡ length places → after ≡ without_unnamed_texts marks places
    → AreFree free places → AreOpen entries places → Follows free entries after
after_forget marks places after free entries same is are_free are_open = rw is (record {
  are_free = λ i. are_free i ∙ sym (forgotten_free marks places i same);
  are_open = λ t i. are_open t i ∙ sym (forgotten_room t marks places i same);
})

pub length-forgotten : (marks : List Bool) (places : List Place) → length marks ≡ length places → length (without_unnamed_texts marks places) ≡ length places
length-forgotten [] [] same = refl
length-forgotten [] (p ∷ ps) same = absurd (omega (arith, same))
length-forgotten (m ∷ ms) [] same = absurd (omega (arith, same))
length-forgotten (m ∷ ms) (p ∷ ps) same = ap suc (length-forgotten ms ps (omega (arith, same)))
