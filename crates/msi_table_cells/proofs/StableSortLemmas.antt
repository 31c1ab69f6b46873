-- A list that is sorted and keeps the order of ties is the stable sort.
use Rattle.std.proofs.Common.{◌≡◌, ℕ, zero, suc, ◌+◌, ◌<◌, ◌≤◌, Bool, true, false, List, [], ◌∷◌, length, refl, sym, ap, ◌∙◌, arith, subst, Ordering, Bor, Result}
use Rattle.std.specs.List.{AllByRecursion, filter}
use Rattle.std.specs.Fn.{ComparesAs, Mut}
use Rattle.std.specs.List.Sorted.{IsSortedBy, IsStableBy, IsSortedByClosure, IsStableByClosure, ties}
use Rattle.std.proofs.lemmas.Result.{on_ok_weaker}
use Rattle.std.specs.Cmp.{IsStrictWeakOrder}
use Rattle.std.specs.Ordering.{is_lt}
use Rattle.std.specs.Prelude.{slice_index_or, not, ◌&&◌, ⊤, OnOk, ◌↔◌, IsPermutation}
use Rattle.std.proofs.lemmas.List.Sorted.{sorted_far, IsPermutation-refl, IsPermutation-sym, IsPermutation-trans, IsPermutation-cons, IsPermutation-middle}
use Rattle.msi_base.specs.Lists.{placed, stable_sort}
use Rattle.msi_base.proofs.BoolLemmas.{by_test, yes_is_no}
use Rattle.msi_base.proofs.ListLemmas.{same_head, same_tail, filter_yes, filter_no, filter_same, all_weaker, all_from_places}
use Rattle.msi_table_cells.specs.SortedRows.{IsStableSort}

no_cons : {X P : Type 0} (x : X) (xs : List X) → [] ≡ x ∷ xs → P
no_cons x xs e = cc

tie_from : (a b : Bool) → a ≡ false → b ≡ false → (not a && not b) ≡ true
tie_from a b p q = rw (p, q)

tie_left : (a b : Bool) → (not a && not b) ≡ true → a ≡ false
tie_left true b e = cc
tie_left false b e = refl

tie_right : (a b : Bool) → (not a && not b) ≡ true → b ≡ false
tie_right true b e = cc
tie_right false true e = cc
tie_right false false e = refl

-- the first that a filter keeps has what all have
first_kept : {X : Type 0} (p : X → Bool) (Q : X → Type 0) (x : X) (rest xs : List X) → filter p xs ≡ x ∷ rest → AllByRecursion Q xs → Q x
first_kept p Q x rest [] e h = no_cons x rest e
first_kept p Q x rest (y ∷ ys) e h = by_test (p y)
    (λ t. subst Q (same_head y x (filter p ys) rest (rw t at e)) h.0)
    (λ t. first_kept p Q x rest ys (rw t at e) h.1)

filter_tail : {X : Type 0} (p : X → Bool) (x : X) (xs ys : List X) → filter p (x ∷ xs) ≡ filter p (x ∷ ys) → filter p xs ≡ filter p ys
filter_tail p x xs ys e = by_test (p x) (λ t. same_tail x x (filter p xs) (filter p ys) (rw t at e)) (λ t. rw t at e)

-- none after is less
abbrev pub Ascends : {X : Type 0} → (X → X → Bool) → List X → Type 0
Ascends lt [] = ⊤
Ascends lt (x ∷ xs) = AllByRecursion (λ y. lt y x ≡ false) xs × Ascends lt xs

up_from_far : {X : Type 0} (lt : X → X → Bool) (xs : List X) → ((i j : ℕ) (d : X) → i ≤ j → j < length xs → lt (slice_index_or xs j d) (slice_index_or xs i d) ≡ false) → Ascends lt xs
up_from_far lt [] f = tt
up_from_far lt (x ∷ xs) f = (all_from_places _ xs (λ k d h. f 0 (suc k) d (omega arith) (omega arith)), up_from_far lt xs (λ i j d h l. f (suc i) (suc j) d (omega arith) (omega arith)))

next_from_up : {X : Type 0} (lt : X → X → Bool) (xs : List X) → Ascends lt xs → (k : ℕ) (d : X) → suc k < length xs → lt (slice_index_or xs (suc k) d) (slice_index_or xs k d) ≡ false
next_from_up lt [] u k d h = absurd (omega arith)
next_from_up lt (x ∷ []) u k d h = absurd (omega arith)
next_from_up lt (x ∷ y ∷ ys) u zero d h = u.0.0
next_from_up lt (x ∷ y ∷ ys) u (suc k) d h = next_from_up lt (y ∷ ys) u.1 k d (omega arith)

module _ {X : Type 0} (lt : X → X → Bool) (o : IsStrictWeakOrder lt) where
  not_below_itself : (x : X) → lt x x ≡ false
  not_below_itself x = by_test (lt x x) (λ t. o.one_way x x t) (λ f. f)

  tied_itself : (x : X) → ties lt x x ≡ true
  tied_itself x = tie_from (lt x x) (lt x x) (not_below_itself x) (not_below_itself x)

  tied : (x y : X) → lt x y ≡ false → lt y x ≡ false → ties lt x y ≡ true
  tied x y p q = tie_from (lt x y) (lt y x) p q

  -- two ascending lists whose ties stand alike are one
  same_sorted : (xs ys : List X) → Ascends lt xs → Ascends lt ys → ((t : X) → filter (ties lt t) xs ≡ filter (ties lt t) ys) → xs ≡ ys
  same_sorted [] [] u v e = refl
  same_sorted [] (y ∷ ys) u v e = no_cons y _ (e y ∙ filter_yes (ties lt y) y ys (tied_itself y))
  same_sorted (x ∷ xs) [] u v e = no_cons x _ (sym (e x) ∙ filter_yes (ties lt x) x xs (tied_itself x))
  same_sorted (x ∷ xs) (y ∷ ys) u v e = by_test (ties lt x y)
      (λ t. let same : x ≡ y = same_head x y _ _ (sym (filter_yes (ties lt x) x xs (tied_itself x)) ∙ e x ∙ filter_yes (ties lt x) y ys t) in
      ap (λ (l : List X). x ∷ l) (same_sorted xs ys u.1 v.1 (λ s. filter_tail (ties lt s) x xs ys (e s ∙ ap (λ (z : X). filter (ties lt s) (z ∷ ys)) (sym same)))) ∙ ap (λ (z : X). z ∷ ys) same)
      (λ t. by_test (ties lt y x)
      (λ r. yes_is_no (ties lt x y) (tied x y (tie_right (lt y x) (lt x y) r) (tie_left (lt y x) (lt x y) r)) t)
      (λ r. yes_is_no (ties lt x y) (tied x y
      (first_kept (ties lt x) (λ w. lt w y ≡ false) x (filter (ties lt x) xs) ys (sym (filter_no (ties lt x) y ys t) ∙ sym (e x) ∙ filter_yes (ties lt x) x xs (tied_itself x)) v.0)
      (first_kept (ties lt y) (λ w. lt w x ≡ false) y (filter (ties lt y) ys) xs (sym (filter_no (ties lt y) x xs r) ∙ e y ∙ filter_yes (ties lt y) y ys (tied_itself y)) u.0)) t))

-- a stable sort only moves elements
module _ {X : Type 0} (cmp : X → X → Ordering) where
  placed_moves : (x : X) (ys : List X) → IsPermutation (x ∷ ys) (placed cmp x ys)
  placed_moves x [] = IsPermutation-refl (x ∷ [])
  placed_moves x (y ∷ ys) = by_test (is_lt (cmp y x))
      (λ t. rw t (IsPermutation-trans (x ∷ y ∷ ys) (y ∷ x ∷ ys) (y ∷ placed cmp x ys)
      (IsPermutation-sym (y ∷ x ∷ ys) (x ∷ y ∷ ys) (IsPermutation-middle (y ∷ []) x ys))
      (IsPermutation-cons y (x ∷ ys) (placed cmp x ys) (placed_moves x ys))))
      (λ t. rw t (IsPermutation-refl (x ∷ y ∷ ys)))

  pub sort_moves : (xs : List X) → IsPermutation xs (stable_sort cmp xs)
  sort_moves [] = IsPermutation-refl []
  sort_moves (x ∷ xs) = IsPermutation-trans (x ∷ xs) (x ∷ stable_sort cmp xs) (placed cmp x (stable_sort cmp xs))
      (IsPermutation-cons x xs (stable_sort cmp xs) (sort_moves xs)) (placed_moves x (stable_sort cmp xs))

module _ {X : Type 0} (cmp : X → X → Ordering) (o : IsStrictWeakOrder (λ x y. is_lt (cmp x y))) where
  abbrev below : X → X → Bool
  below x y = is_lt (cmp x y)

  all_placed : (P : X → Type 0) (x : X) (ys : List X) → P x → AllByRecursion P ys → AllByRecursion P (placed cmp x ys)
  all_placed P x [] p h = (p, tt)
  all_placed P x (y ∷ ys) p h = by_test (is_lt (cmp y x)) (λ t. rw t (h.0, all_placed P x ys p h.1)) (λ t. rw t (p, h))

  up_placed : (x : X) (ys : List X) → Ascends below ys → Ascends below (placed cmp x ys)
  up_placed x [] u = (tt, tt)
  up_placed x (y ∷ ys) u = by_test (is_lt (cmp y x))
      (λ t. rw t (all_placed (λ w. below w y ≡ false) x ys (o.one_way y x t) u.0, up_placed x ys u.1))
      (λ t. rw t ((t, all_weaker (λ w. below w y ≡ false) (λ w. below w x ≡ false) ys (λ w h. o.chain w y x h t) u.0), u))

  up_stable_sort : (xs : List X) → Ascends below (stable_sort cmp xs)
  up_stable_sort [] = tt
  up_stable_sort (x ∷ xs) = up_placed x (stable_sort cmp xs) (up_stable_sort xs)

  -- one that is less stands in no tie with the other
  swapped : (t x y : X) (zs : List X) → below y x ≡ true → filter (ties below t) (y ∷ x ∷ zs) ≡ filter (ties below t) (x ∷ y ∷ zs)
  swapped t x y zs h = by_test (ties below t x)
      (λ p. by_test (ties below t y)
      (λ q. yes_is_no (below y x) h (o.chain y t x (tie_right (below t y) (below y t) q) (tie_left (below t x) (below x t) p)))
      (λ q. filter_no (ties below t) y (x ∷ zs) q ∙ filter_same (ties below t) x zs (y ∷ zs) (sym (filter_no (ties below t) y zs q))))
      (λ p. filter_same (ties below t) y (x ∷ zs) zs (filter_no (ties below t) x zs p) ∙ sym (filter_no (ties below t) x (y ∷ zs) p))

  filter_placed : (t x : X) (ys : List X) → filter (ties below t) (placed cmp x ys) ≡ filter (ties below t) (x ∷ ys)
  filter_placed t x [] = refl
  filter_placed t x (y ∷ ys) = by_test (is_lt (cmp y x))
      (λ h. ap (filter (ties below t)) (goes_on x y ys h) ∙ filter_same (ties below t) y (placed cmp x ys) (x ∷ ys) (filter_placed t x ys) ∙ swapped t x y ys h)
      (λ h. ap (filter (ties below t)) (goes_here x y ys h)) where
        goes_on : (x y : X) (ys : List X) → is_lt (cmp y x) ≡ true → placed cmp x (y ∷ ys) ≡ y ∷ placed cmp x ys
        goes_on x y ys h = rw h

        goes_here : (x y : X) (ys : List X) → is_lt (cmp y x) ≡ false → placed cmp x (y ∷ ys) ≡ x ∷ y ∷ ys
        goes_here x y ys h = rw h

  filter_stable_sort : (t : X) (xs : List X) → filter (ties below t) (stable_sort cmp xs) ≡ filter (ties below t) xs
  filter_stable_sort t [] = refl
  filter_stable_sort t (x ∷ xs) = filter_placed t x (stable_sort cmp xs) ∙ filter_same (ties below t) x (stable_sort cmp xs) xs (filter_stable_sort t xs)

  -- what std's stable sort ensures gives the stable sort of the definition
  pub is_stable_sort : (xs ys : List X) → IsSortedBy (λ x y. is_lt (cmp x y)) ys → IsStableBy (λ x y. is_lt (cmp x y)) xs ys → ys ≡ stable_sort cmp xs
  is_stable_sort xs ys sorted stable = same_sorted below o ys (stable_sort cmp xs)
      (up_from_far below ys (λ i j d h l. sorted_far below o ys sorted i j d h l)) (up_stable_sort xs)
      (λ t. stable t ∙ sym (filter_stable_sort t xs))

  stable_sort_is : (xs : List X) → IsStableSort cmp xs (stable_sort cmp xs)
  stable_sort_is xs = record {
    moved = sort_moves cmp xs;
    ascends = λ k d l h. let e : k + 1 ≡ suc k = omega arith in rw e (next_from_up below (stable_sort cmp xs) (up_stable_sort xs) k d (omega arith));
    stable = λ t. filter_stable_sort t xs;
  }

  -- it is the one list that is sorted so
  pub only_stable_sort : (xs sorted : List X) → (sorted ≡ stable_sort cmp xs) ↔ IsStableSort cmp xs sorted
  only_stable_sort xs sorted = (λ e. subst (IsStableSort cmp xs) (sym e) (stable_sort_is xs), λ s. is_stable_sort xs sorted s.ascends s.stable)

  -- what all have, all of the sorted list have
  pub all_sorted : (P : X → Type 0) (xs : List X) → AllByRecursion P xs → AllByRecursion P (stable_sort cmp xs)
  all_sorted P [] h = tt
  all_sorted P (x ∷ xs) h = all_placed P x (stable_sort cmp xs) h.0 (all_sorted P xs h.1)

  length_placed : (x : X) (ys : List X) → length (placed cmp x ys) ≡ suc (length ys)
  length_placed x [] = refl
  length_placed x (y ∷ ys) = by_test (is_lt (cmp y x)) (λ t. rw t (ap suc (length_placed x ys))) (λ t. rw t)

  pub length_sorted : (xs : List X) → length (stable_sort cmp xs) ≡ length xs
  length_sorted [] = refl
  length_sorted (x ∷ xs) = length_placed x (stable_sort cmp xs) ∙ ap suc (length_sorted xs)

-- a sort by a closure that answers as the order does
pub sorted_by_closure : {F X E : Type 0} (g : Mut F (Bor X × (Bor X × Unit {0})) Ordering) (f : F) (cmp : X → X → Ordering) → IsStrictWeakOrder (λ x y. is_lt (cmp x y)) → ComparesAs g (λ x y. is_lt (cmp x y)) f
    → (xs ys : List X) (r : Result (Unit {0}) E) → OnOk r (IsSortedByClosure g f ys) → IsStableByClosure g f xs ys → OnOk r (ys ≡ stable_sort cmp xs)
sorted_by_closure g f cmp weak agrees xs ys r sorted stable =
    on_ok_weaker {P = IsSortedByClosure g f ys} r
    (λ s. is_stable_sort cmp weak xs ys (s (λ x y. is_lt (cmp x y)) weak agrees) (stable (λ x y. is_lt (cmp x y)) weak agrees)) sorted
