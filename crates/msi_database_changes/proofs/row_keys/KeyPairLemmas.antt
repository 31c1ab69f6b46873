-- Whether two of a list pass a test together, where the test goes both ways: a sort changes nothing of it.
use Rattle.std.proofs.Common.{◌≡◌, Bool, true, false, ◌||◌, List, [], ◌∷◌, ◌++◌, refl, ap, ◌∙◌, ⊎_elim, Ordering, Less, Equal, Greater}
use Rattle.std.specs.List.{list_any, AllByRecursion}
use Rattle.std.specs.Ordering.{is_lt, is_eq, ordering_reverse}
use Rattle.std.specs.Cmp.Lexicographic.{slice_cmp, lists_total}
use Rattle.std.proofs.lemmas.Bool.{cases_Bool, or_parts, or_from}
use Rattle.msi_base.specs.Lists.{has_pair, placed, stable_sort}
use Rattle.msi_base.proofs.ListLemmas.{any_joined}
use Rattle.msi_table_values.specs.declared.value.Value.{Value}
use Rattle.msi_table_values.specs.Values.{value_cmp}
use Rattle.msi_table_values.specs.OrderLaws.{value_cmp-total}
use Rattle.msi_table_cells.specs.KeyOrder.{same_key}

turned_eq : (r : Ordering) → is_eq (ordering_reverse r) ≡ is_eq r
turned_eq Less = refl
turned_eq Equal = refl
turned_eq Greater = refl

pub same_key_turned : (k l : List Value) → same_key k l ≡ same_key l k
same_key_turned k l = ap is_eq ((lists_total value_cmp-total).antisymm k l) ∙ turned_eq (slice_cmp value_cmp l k)

any-placed : {X : Type 0} (cmp : X → X → Ordering) (p : X → Bool) (x : X) (ys : List X) → list_any p (placed cmp x ys) ≡ (p x || list_any p ys)
any-placed cmp p x [] = refl
any-placed cmp p x (y ∷ ys) = ⊎_elim
    (λ (t : is_lt (cmp y x) ≡ true). rw t (ap (λ b. p y || b) (any-placed cmp p x ys) ∙ exchanged (p y) (p x) (list_any p ys)))
    (λ (t : is_lt (cmp y x) ≡ false). rw t)
    (cases_Bool (is_lt (cmp y x))) where
      exchanged : (a b c : Bool) → (a || (b || c)) ≡ (b || (a || c))
      exchanged true true c = refl
      exchanged true false c = refl
      exchanged false b c = refl

module _ {X : Type 0} (cmp : X → X → Ordering) (same : X → X → Bool) (turn : (x y : X) → same x y ≡ same y x) where
  four : (a b c d : Bool) → ((a || c) || (b || d)) ≡ ((a || b) || (c || d))
  four true b c d = refl
  four false true true d = refl
  four false true false d = refl
  four false false true d = refl
  four false false false d = refl

  pair-placed : (x : X) (ys : List X) → has_pair same (placed cmp x ys) ≡ (list_any (same x) ys || has_pair same ys)
  pair-placed x [] = refl
  pair-placed x (y ∷ ys) = ⊎_elim
      (λ (t : is_lt (cmp y x) ≡ true). rw (t, any-placed cmp (same y) x ys, pair-placed x ys, turn y x) (four (same x y) (list_any (same x) ys) (list_any (same y) ys) (has_pair same ys)))
      (λ (t : is_lt (cmp y x) ≡ false). rw t)
      (cases_Bool (is_lt (cmp y x)))

  any-sorted : (p : X → Bool) (xs : List X) → list_any p (stable_sort cmp xs) ≡ list_any p xs
  any-sorted p [] = refl
  any-sorted p (x ∷ xs) = any-placed cmp p x (stable_sort cmp xs) ∙ ap (λ b. p x || b) (any-sorted p xs)

  pub pair-sorted : (xs : List X) → has_pair same (stable_sort cmp xs) ≡ has_pair same xs
  pair-sorted [] = refl
  pair-sorted (x ∷ xs) = pair-placed x (stable_sort cmp xs) ∙ rw (any-sorted (same x) xs, pair-sorted xs)

-- none of ys passes with an element of xs
abbrev pub AllApart : {X : Type 0} → (X → X → Bool) → List X → List X → Type 0
AllApart same xs ys = AllByRecursion (λ y. list_any (same y) xs ≡ false) ys

module _ {X : Type 0} (same : X → X → Bool) (turn : (x y : X) → same x y ≡ same y x) where
  apart_first : (x : X) (xs ys : List X) → AllApart same (x ∷ xs) ys → (list_any (same x) ys ≡ false) × AllApart same xs ys
  apart_first x xs [] h = (refl, tt)
  apart_first x xs (y ∷ ys) h =
      let parts = or_parts (same y x) (list_any (same y) xs) h.0 in
      let rest = apart_first x xs ys h.1 in
      (or_from (same x y) (list_any (same x) ys) (turn x y ∙ parts.0) rest.0, (parts.1, rest.1))

  pub pair-append : (xs ys : List X) → has_pair same xs ≡ false → has_pair same ys ≡ false → AllApart same xs ys → has_pair same (xs ++ ys) ≡ false
  pair-append [] ys h g apart = g
  pair-append (x ∷ xs) ys h g apart =
      let parts = or_parts (list_any (same x) xs) (has_pair same xs) h in
      let first = apart_first x xs ys apart in
      or_from (list_any (same x) (xs ++ ys)) (has_pair same (xs ++ ys)) (any_joined (same x) xs ys parts.0 first.0) (pair-append xs ys parts.1 g first.1)
