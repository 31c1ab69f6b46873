-- Sorted lists: what is looked up there, how many elements a search leaves in front, and when two elements tie.
use Rattle.std.proofs.Common.{◌≡◌, ℕ, zero, suc, ◌+◌, ◌<◌, ◌≤◌, Bool, true, false, List, [], ◌∷◌, length, refl, sym, ap, ◌∙◌, arith, subst, Ordering, Some, None}
use Rattle.std.specs.Prelude.{slice_get, slice_index_or, not, ◌&&◌, ◌||◌, if◌then◌else◌, Option, option_and_then, filter, find, IsPermutation}
use Rattle.std.specs.Bool.{MatchBool}
use Rattle.std.specs.Cmp.{IsTotalOrder, IsStrictWeakOrder, Equal-is}
use Rattle.std.specs.List.{AllAdjacentBelow, AllByRecursion, AllWithin, list_any}
use Rattle.std.specs.List.Sorted.{IsPartitionPoint, IsPartitionedBy, IsSorted, ties}
use Rattle.std.specs.Ordering.{is_eq, is_le, is_lt, ordering_reverse}
use Rattle.std.specs.declared.cmp.Ordering.TheVariants.{Less, Equal, Greater}
use Rattle.std.proofs.lemmas.List.Sorted.{list_any-IsPermutation, ranks_by, sorted_far, IsPermutation-sym}
use Rattle.std.proofs.lemmas.Bool.{or_from}
use Rattle.std.proofs.lemmas.List.Elements.{filter_agree}
use Rattle.msi_base.specs.Lists.{has_pair, stable_sort}
use Rattle.msi_table_cells.specs.SortedRows.{IsStableSort}
use Rattle.msi_table_cells.proofs.StableSortLemmas.{only_stable_sort, Ascends}
use Rattle.msi_base.proofs.ListLemmas.{found_in, found_none, none_pass, no_pair_permuted, not_found, all_weaker, all_from_places}
use Rattle.msi_base.proofs.BoolLemmas.{by_test, yes_is_no}

-- ---- what is found first

first_of : {X : Type 0} (p : X → Bool) (xs : List X) → find p xs ≡ slice_get (filter p xs) 0
first_of p [] = refl
first_of p (x ∷ xs) = by_test (p x) (λ t. rw t refl) (λ t. rw t (first_of p xs))

-- a test that passes what ties with one that passes finds the same in a list whose ties stand alike
find_alike : {X : Type 0} (tie : X → X → Bool) (p : X → Bool) → ((x y : X) → p x ≡ true → p y ≡ tie x y) → (xs ys : List X)
    → IsPermutation xs ys → ((t : X) → filter (tie t) ys ≡ filter (tie t) xs) → find p ys ≡ find p xs
find_alike tie p ties_pass xs ys moved same = go (find p xs) refl
  where
    go : (o : Option _) → find p xs ≡ o → find p ys ≡ find p xs
    go None e = not_found p ys (sym (list_any-IsPermutation p xs ys moved) ∙ found_none p xs e) ∙ sym e
    go (Some x) e =
        let g = found_in p xs x e in
        let alike : (y : _) → p y ≡ tie x y = λ y. ties_pass x y g.1 in
        first_of p ys ∙ ap (λ (l : List _). slice_get l 0) (filter_agree p (tie x) alike ys ∙ same x ∙ sym (filter_agree p (tie x) alike xs)) ∙ sym (first_of p xs)

tie_is : (o : Ordering) → is_eq (ordering_reverse o) ≡ (not (is_lt o) && not (is_lt (ordering_reverse o)))
tie_is Less = refl
tie_is Equal = refl
tie_is Greater = refl

less_is_no_tie : (o : Ordering) → is_lt o ≡ true → is_eq o ≡ false
less_is_no_tie Less e = refl
less_is_no_tie Equal e = cc
less_is_no_tie Greater e = refl

-- one that doesn't stand below and doesn't tie stands above
above_is : (o : Ordering) → is_lt o ≡ false → is_eq o ≡ false → o ≡ Greater
above_is Less e f = cc
above_is Equal e f = cc
above_is Greater e f = refl

less_is : (o : Ordering) → is_lt o ≡ true → o ≡ Less
less_is Less e = refl
less_is Equal e = cc
less_is Greater e = cc

-- ---- lists that ascend

ascends_from_far : {X : Type 0} (lt : X → X → Bool) (xs : List X) → ((i j : ℕ) (d : X) → i ≤ j → j < length xs → lt (slice_index_or xs j d) (slice_index_or xs i d) ≡ false) → Ascends lt xs
ascends_from_far lt [] f = tt
ascends_from_far lt (x ∷ xs) f = (all_from_places _ xs (λ k d h. f 0 (suc k) d (omega arith) (omega arith)), ascends_from_far lt xs (λ i j d h l. f (suc i) (suc j) d (omega arith) (omega arith)))

-- what a search at a place finds
abbrev pub found_at : {X : Type 0} → (X → Bool) → List X → ℕ → Option X
found_at p xs i = option_and_then (λ x. if p x then Some x else None) (slice_get xs i)

pub found_here : {X : Type 0} (p : X → Bool) (xs : List X) (i : ℕ) (x : X) → Some x ≡ slice_get xs i → p x ≡ true → Some x ≡ found_at p xs i
found_here p xs i x e t = rw (← e, t) refl

pub missing_here : {X : Type 0} (p : X → Bool) (xs : List X) (i : ℕ) (x : X) → Some x ≡ slice_get xs i → p x ≡ false → None ≡ found_at p xs i
missing_here p xs i x e t = rw (← e, t) refl

pub past_here : {X : Type 0} (p : X → Bool) (xs : List X) (i : ℕ) → None ≡ slice_get xs i → None ≡ found_at p xs i
past_here p xs i e = rw (← e) refl

-- as many pass as stand in front of the place up to which all pass
pub passed_before : {X : Type 0} (p : X → Bool) (xs : List X) (i : ℕ) → i ≤ length xs → AllWithin (λ x. p x ≡ true) xs 0 i → AllWithin (λ x. p x ≡ false) xs i (length xs) → length (filter p xs) ≡ i
passed_before p [] i l holds fails = omega arith
passed_before p (x ∷ xs) zero l holds fails =
    let t : p x ≡ false = fails 0 x (omega arith) (omega arith) in
    rw t (passed_before p xs 0 (omega arith) (λ k d h g. absurd (omega arith)) (λ k d h g. fails (suc k) d (omega arith) (omega arith)))
passed_before p (x ∷ xs) (suc i) l holds fails =
    let t : p x ≡ true = holds 0 x (omega arith) (omega arith) in
    rw t (ap suc (passed_before p xs i (omega arith) (λ k d h g. holds (suc k) d (omega arith) (omega arith)) (λ k d h g. fails (suc k) d (omega arith) (omega arith))))

-- those up to a bound are those below it and those at it
pub up_to_bound : {X : Type 0} (o : X → Ordering) (xs : List X) → length (filter (λ x. is_le (o x)) xs) ≡ length (filter (λ x. is_lt (o x)) xs) + length (filter (λ x. is_eq (o x)) xs)
up_to_bound o [] = refl
up_to_bound o (x ∷ xs) = one_more (o x) _ _ _ (up_to_bound o xs)
  where
    one_more : (r : Ordering) (a b c : List _) → length a ≡ length b + length c → length (if is_le r then x ∷ a else a) ≡ length (if is_lt r then x ∷ b else b) + length (if is_eq r then x ∷ c else c)
    one_more Less a b c h = omega arith
    one_more Equal a b c h = omega arith
    one_more Greater a b c h = h

one_later : {X : Type 0} (P : X → X → Type 0) (x : X) (xs : List X) (k : ℕ) (d : X) → P (slice_index_or (x ∷ xs) (suc k) d) (slice_index_or (x ∷ xs) (suc k + 1) d) → P (slice_index_or xs k d) (slice_index_or xs (k + 1) d)
one_later P x xs k d h = let e : suc k + 1 ≡ suc (k + 1) = omega arith in subst (λ (j : ℕ). P (slice_index_or xs k d) (slice_index_or (x ∷ xs) j d)) e h

tail_adjacent : {X : Type 0} (P : X → X → Type 0) (x : X) (xs : List X) → AllAdjacentBelow P (x ∷ xs) (length (x ∷ xs)) → AllAdjacentBelow P xs (length xs)
tail_adjacent P x xs up k d l = one_later P x xs k d (up (suc k) d (omega arith))

module _ {X K : Type 0} (key : X → K) (R : K → K → Ordering) (total : IsTotalOrder R) where
  abbrev pub order : X → X → Ordering
  order x y = R (key x) (key y)

  pub order-weak : IsStrictWeakOrder (λ x y. is_lt (order x y))
  order-weak = ranks_by total key

  -- what ties with one that stands at q, stands at q
  at_ties : (q : K) (x y : X) → is_eq (R (key x) q) ≡ true → is_eq (R (key y) q) ≡ ties (λ a b. is_lt (order a b)) x y
  at_ties q x y t =
      let e : R (key x) q ≡ Equal = (Equal-is (R (key x) q)).0 t in
      let turned : R (key y) q ≡ ordering_reverse (order x y) = total.antisymm (key y) q ∙ ap ordering_reverse (sym (total.congr (key x) q (key y) e)) in
      ap is_eq turned ∙ tie_is (order x y) ∙ ap (λ (r : Ordering). not (is_lt (order x y)) && not (is_lt r)) (sym (total.antisymm (key y) (key x)))

  pub sorted_is : (xs : List X) → IsStableSort order xs (stable_sort order xs)
  sorted_is xs = (only_stable_sort order order-weak xs (stable_sort order xs)).0 refl

  pub ascending : (xs ys : List X) → xs ≡ stable_sort order ys → IsSorted order xs
  ascending xs ys e = subst (IsSorted order) (sym e) ((sorted_is ys).ascends)

  -- a look-up by a key finds the same in the sorted list
  pub find_sorted : (q : K) (xs : List X) → find (λ x. is_eq (R (key x) q)) (stable_sort order xs) ≡ find (λ x. is_eq (R (key x) q)) xs
  find_sorted q xs = find_alike (ties (λ a b. is_lt (order a b))) (λ x. is_eq (R (key x) q)) (at_ties q) xs (stable_sort order xs) (sorted_is xs).moved (sorted_is xs).stable

  pub ascends : (xs : List X) → IsSorted order xs → Ascends (λ x y. is_lt (order x y)) xs
  ascends xs sorted = ascends_from_far (λ x y. is_lt (order x y)) xs (λ i j d h l. sorted_far (λ x y. is_lt (order x y)) order-weak xs sorted i j d h l)

  -- of sorted elements those below a key come first
  below_first : (q : K) (x y : X) → is_lt (order y x) ≡ false → is_lt (R (key y) q) ≡ true → is_lt (R (key x) q) ≡ true
  below_first q x y up t = by_test (is_lt (R (key x) q)) (λ u. u)
      (λ f. by_test (is_eq (R (key x) q))
      (λ e. yes_is_no (is_lt (order y x)) (ap is_lt (total.antisymm (key y) (key x) ∙ ap ordering_reverse (total.congr (key x) q (key y) ((Equal-is _).0 e)) ∙ sym (total.antisymm (key y) q)) ∙ t) up)
      (λ n. yes_is_no (is_lt (order y x)) (ap is_lt (total.trans (key y) q (key x) (less_is _ t) (total.antisymm q (key x) ∙ ap ordering_reverse (above_is _ f n)))) up))

  pub below_parts : (q : K) (xs : List X) → IsSorted order xs → IsPartitionedBy (λ x. is_lt (R (key x) q)) xs
  below_parts q xs sorted i j d h l t = below_first q (slice_index_or xs i d) (slice_index_or xs j d) (sorted_far (λ x y. is_lt (order x y)) order-weak xs sorted i j d h l) t

  -- and so do those up to it
  up_first : (q : K) (x y : X) → is_lt (order y x) ≡ false → is_le (R (key y) q) ≡ true → is_le (R (key x) q) ≡ true
  up_first q x y up t = by_test (is_lt (R (key y) q))
      (λ l. le_if_lt (R (key x) q) (below_first q x y up l))
      (λ f. le_if_not_gt (R (key x) q) (R (key y) q) (R (key y) (key x)) f t
      (λ e. total.congr (key y) q (key x) e ∙ total.antisymm q (key x)) up)
    where
      le_if_lt : (o : Ordering) → is_lt o ≡ true → is_le o ≡ true
      le_if_lt Less e = refl
      le_if_lt Equal e = refl
      le_if_lt Greater e = cc

      le_if_not_gt : (o p r : Ordering) → is_lt p ≡ false → is_le p ≡ true → (p ≡ Equal → r ≡ ordering_reverse o) → is_lt r ≡ false → is_le o ≡ true
      le_if_not_gt Less p r f t h up = refl
      le_if_not_gt Equal p r f t h up = refl
      le_if_not_gt Greater Less r f t h up = cc
      le_if_not_gt Greater Equal r f t h up = let e = h refl in cc (ap is_lt e)
      le_if_not_gt Greater Greater r f t h up = cc

  pub up_parts : (q : K) (xs : List X) → IsSorted order xs → IsPartitionedBy (λ x. is_le (R (key x) q)) xs
  up_parts q xs sorted i j d h l t = up_first q (slice_index_or xs i d) (slice_index_or xs j d) (sorted_far (λ x y. is_lt (order x y)) order-weak xs sorted i j d h l) t

  none_at : (q : K) (x : X) (xs : List X) → is_lt (R (key x) q) ≡ false → is_eq (R (key x) q) ≡ false → AllByRecursion (λ y. is_lt (order y x) ≡ false) xs → list_any (λ y. is_eq (R (key y) q)) xs ≡ false
  none_at q x xs f n up = none_pass (λ y. is_eq (R (key y) q)) xs (all_weaker (λ y. is_lt (order y x) ≡ false) (λ y. is_eq (R (key y) q) ≡ false) xs
      (λ y h. by_test (is_eq (R (key y) q))
      (λ e. yes_is_no (is_lt (order y x)) (ap is_lt (total.congr (key y) q (key x) ((Equal-is _).0 e) ∙ total.antisymm q (key x) ∙ ap ordering_reverse (above_is _ f n))) h)
      (λ g. g)) up)

  -- the first element at a key stands where those below it end
  looked_up : (q : K) (xs : List X) (i : ℕ) → Ascends (λ x y. is_lt (order x y)) xs → i ≤ length xs
      → AllWithin (λ x. is_lt (R (key x) q) ≡ true) xs 0 i → AllWithin (λ x. is_lt (R (key x) q) ≡ false) xs i (length xs)
      → find (λ x. is_eq (R (key x) q)) xs ≡ found_at (λ x. is_eq (R (key x) q)) xs i
  looked_up q [] i up l holds fails = refl
  looked_up q (x ∷ xs) zero up l holds fails =
      let f : is_lt (R (key x) q) ≡ false = fails 0 x (omega arith) (omega arith) in
      by_test (is_eq (R (key x) q)) (λ t. rw t refl) (λ t. rw t (not_found (λ y. is_eq (R (key y) q)) xs (none_at q x xs f t up.0)))
  looked_up q (x ∷ xs) (suc i) up l holds fails =
      let t : is_eq (R (key x) q) ≡ false = less_is_no_tie (R (key x) q) (holds 0 x (omega arith) (omega arith)) in
      rw t (looked_up q xs i up.1 (omega arith) (λ k d h g. holds (suc k) d (omega arith) (omega arith)) (λ k d h g. fails (suc k) d (omega arith) (omega arith)))

  pub found_first : (q : K) (xs : List X) (i : ℕ) → IsSorted order xs → i ≤ length xs
      → IsPartitionPoint (λ x. is_lt (R (key x) q) ≡ true) (λ x. is_lt (R (key x) q) ≡ false) xs i
      → find (λ x. is_eq (R (key x) q)) xs ≡ found_at (λ x. is_eq (R (key x) q)) xs i
  found_first q xs i sorted l point = looked_up q xs i (ascends xs sorted) l point.0 point.1

  -- ---- pairs that tie

  abbrev pub tie : X → X → Bool
  tie x y = is_eq (order x y)

  tie_flips : (x y : X) → tie x y ≡ tie y x
  tie_flips x y = ap is_eq (total.antisymm (key x) (key y)) ∙ same_tie (order y x)
    where
      same_tie : (o : Ordering) → is_eq (ordering_reverse o) ≡ is_eq o
      same_tie Less = refl
      same_tie Equal = refl
      same_tie Greater = refl

  -- where each is less than the next, none ties with another
  all_above : (x : X) (xs : List X) → AllAdjacentBelow (λ a b. true ≡ is_lt (order a b)) (x ∷ xs) (length (x ∷ xs)) → AllByRecursion (λ y. order x y ≡ Less) xs
  all_above x [] up = tt
  all_above x (y ∷ ys) up =
      let here : order x y ≡ Less = less_is (order x y) (sym (up 0 x (omega arith))) in
      (here, all_weaker (λ z. order y z ≡ Less) (λ z. order x z ≡ Less) ys (λ z h. total.trans (key x) (key y) (key z) here h) (all_above y ys (tail_adjacent (λ a b. true ≡ is_lt (order a b)) x (y ∷ ys) up)))

  strict_apart : (xs : List X) → AllAdjacentBelow (λ a b. true ≡ is_lt (order a b)) xs (length xs) → has_pair tie xs ≡ false
  strict_apart [] up = refl
  strict_apart (x ∷ xs) up = or_from (list_any (tie x) xs) (has_pair tie xs)
      (none_pass (tie x) xs (all_weaker (λ y. order x y ≡ Less) (λ y. tie x y ≡ false) xs (λ y h. ap is_eq h) (all_above x xs up)))
      (strict_apart xs (tail_adjacent (λ a b. true ≡ is_lt (order a b)) x xs up))

  -- two neighbours of which the first isn't less tie, where the list is sorted
  neighbours_tie : (xs : List X) (k : ℕ) → Ascends (λ x y. is_lt (order x y)) xs → k + 1 < length xs → ((d : X) → false ≡ is_lt (order (slice_index_or xs k d) (slice_index_or xs (k + 1) d))) → has_pair tie xs ≡ true
  neighbours_tie [] k up l f = absurd (omega arith)
  neighbours_tie (x ∷ []) k up l f = absurd (omega arith)
  neighbours_tie (x ∷ y ∷ ys) zero up l f =
      let t : tie x y ≡ true = tied (order x y) (order y x) (total.antisymm (key y) (key x)) (sym (f x)) (up.0.0) in
      rw t refl
    where
      tied : (o r : Ordering) → r ≡ ordering_reverse o → is_lt o ≡ false → is_lt r ≡ false → is_eq o ≡ true
      tied Less r e g h = cc
      tied Equal r e g h = refl
      tied Greater r e g h = let s = rw e at h in cc
  neighbours_tie (x ∷ y ∷ ys) (suc k) up l f =
      let t : has_pair tie (y ∷ ys) ≡ true = neighbours_tie (y ∷ ys) k up.1 (omega arith) (λ d. one_later (λ a b. false ≡ is_lt (order a b)) x (y ∷ ys) k d (f d)) in
      rest_pairs (list_any (tie x) (y ∷ ys)) (has_pair tie (y ∷ ys)) t
    where
      rest_pairs : (a b : Bool) → b ≡ true → (a || b) ≡ true
      rest_pairs true b e = refl
      rest_pairs false b e = e

  same_pairs : (xs ys : List X) → IsPermutation xs ys → has_pair tie ys ≡ has_pair tie xs
  same_pairs xs ys moved = by_test (has_pair tie xs)
      (λ t. by_test (has_pair tie ys) (λ u. u ∙ sym t) (λ u. yes_is_no (has_pair tie xs) t (no_pair_permuted tie tie_flips ys xs (IsPermutation-sym xs ys moved) u)))
      (λ t. no_pair_permuted tie tie_flips xs ys moved t ∙ sym t)

  -- so a sorted list whose neighbours ascend strictly tells that none tie
  pub repeats_told : (xs : List X) (strict : Bool) → MatchBool strict (AllAdjacentBelow (λ a b. true ≡ is_lt (order a b)) (stable_sort order xs) (length (stable_sort order xs)))
      ((k : ℕ) × (k + 1 < length (stable_sort order xs)) × ((d : X) → false ≡ is_lt (order (slice_index_or (stable_sort order xs) k d) (slice_index_or (stable_sort order xs) (k + 1) d))))
      → not strict ≡ has_pair tie xs
  repeats_told xs true up = sym (strict_apart (stable_sort order xs) up) ∙ same_pairs xs (stable_sort order xs) (sorted_is xs).moved
  repeats_told xs false up = sym (neighbours_tie (stable_sort order xs) up.0 (ascends (stable_sort order xs) (sorted_is xs).ascends) up.1 up.2) ∙ same_pairs xs (stable_sort order xs) (sorted_is xs).moved

pub pairs_alike : {X : Type 0} (p q : X → X → Bool) (xs : List X) → ((x y : X) → p x y ≡ q x y) → has_pair p xs ≡ has_pair q xs
pairs_alike p q xs h = λ i. has_pair (λ x y. h x y i) xs
