-- Lists: tests of their elements, look-ups, pairs, images, and numbers in a row.
use Rattle.std.proofs.Common.{◌≡◌, ℕ, zero, suc, ◌+◌, ◌<◌, ◌≤◌, ◌⊎◌, inl, inr, Bool, true, false, List, [], ◌∷◌, ◌++◌, length, refl, sym, ap, ◌∙◌, arith, Some, None, get_or, drop, subst}
use Rattle.std.specs.Prelude.{slice_get, slice_index_or, ◌&&◌, ◌||◌, Option, option_map, map, filter, find, IsPermutation}
use Rattle.std.specs.List.{AllByRecursion, Contains, IsDistinct, list_any, list_all}
use Rattle.std.proofs.Math.Bool.{and_comm}
use Rattle.std.proofs.lemmas.List.Sorted.{Contains-permutation, list_any-IsPermutation}
use Rattle.std.proofs.lemmas.Map.Keys.{IsDistinct-IsPermutation}
use Rattle.std.proofs.lemmas.Bool.{and_parts, cases_eq, or_parts, or_from, and_from, false_from_ne_true}
use Rattle.msi_base.specs.Lists.{all_present, has_pair, numbers_from, tabulated}
use Rattle.msi_base.proofs.BoolLemmas.{by_test, yes_is_no, or_second}

-- ---- tests

pub list_any_same : {X : Type 0} (p q : X → Bool) (xs : List X) → ((x : X) → p x ≡ q x) → list_any p xs ≡ list_any q xs
list_any_same p q xs h = λ i. list_any (λ x. h x i) xs

pub list_any-map : {X Y : Type 0} (p : Y → Bool) (f : X → Y) (xs : List X) → list_any p (map f xs) ≡ list_any (λ x. p (f x)) xs
list_any-map p f [] = refl
list_any-map p f (x ∷ xs) = ap (λ b. p (f x) || b) (list_any-map p f xs)

pub list_any-filter : {X : Type 0} (p q : X → Bool) (xs : List X) → list_any p (filter q xs) ≡ list_any (λ x. q x && p x) xs
list_any-filter p q [] = refl
list_any-filter p q (x ∷ xs) = by_test (q x) (λ t. rw t (ap (λ b. p x || b) (list_any-filter p q xs))) (λ t. rw t (list_any-filter p q xs))

pub find-filter : {X : Type 0} (p q : X → Bool) (xs : List X) → find p (filter q xs) ≡ find (λ x. q x && p x) xs
find-filter p q [] = refl
find-filter p q (x ∷ xs) = by_test (q x)
    (λ t. rw t (by_test (p x) (λ u. rw u refl) (λ u. rw u (find-filter p q xs))))
    (λ t. rw t (find-filter p q xs))

pub find_same : {X : Type 0} (p q : X → Bool) (xs : List X) → ((x : X) → p x ≡ q x) → find p xs ≡ find q xs
find_same p q xs h = λ i. find (λ x. h x i) xs

-- a test that fails at each element
pub none_pass : {X : Type 0} (p : X → Bool) (xs : List X) → AllByRecursion (λ x. p x ≡ false) xs → list_any p xs ≡ false
none_pass p [] h = refl
none_pass p (x ∷ xs) h = or_from (p x) (list_any p xs) h.0 (none_pass p xs h.1)

pub none_passes : {X : Type 0} (p : X → Bool) (xs : List X) → list_any p xs ≡ false → AllByRecursion (λ x. p x ≡ false) xs
none_passes p [] h = tt
none_passes p (x ∷ xs) h = let g = or_parts (p x) (list_any p xs) h in (g.0, none_passes p xs g.1)

pub not_found : {X : Type 0} (p : X → Bool) (xs : List X) → list_any p xs ≡ false → find p xs ≡ None
not_found p [] h = refl
not_found p (x ∷ xs) h = let g = or_parts (p x) (list_any p xs) h in rw (g.0) (not_found p xs g.1)

pub found_none : {X : Type 0} (p : X → Bool) (xs : List X) → find p xs ≡ None → list_any p xs ≡ false
found_none p [] h = refl
found_none p (x ∷ xs) h = by_test (p x) (λ t. let e = rw t at h in cc) (λ t. or_from (p x) (list_any p xs) t (found_none p xs (rw t at h)))

-- ---- members

abbrev pub In : {X : Type 0} → X → List X → Type 0
In x [] = ⊥
In x (y ∷ ys) = (y ≡ x) ⊎ In x ys

pub In-from_Contains : {X : Type 0} (xs : List X) (x : X) → Contains xs x → In x xs
In-from_Contains xs x h = go xs (h.0) (h.1) (h.2)
  where
    go : (ys : List _) (k : ℕ) → k < length ys → get_or ys k x ≡ x → In x ys
    go [] k l e = absurd (omega arith)
    go (y ∷ ys) zero l e = inl e
    go (y ∷ ys) (suc k) l e = inr (go ys k (omega arith) e)

pub Contains-from_In : {X : Type 0} (xs : List X) (x : X) → In x xs → Contains xs x
Contains-from_In [] x h = absurd h
Contains-from_In (y ∷ ys) x (inl e) = (0, omega arith, e)
Contains-from_In (y ∷ ys) x (inr h) = let c = Contains-from_In ys x h in (suc (c.0), omega arith, c.2)

pub In_permuted : {X : Type 0} (xs ys : List X) (x : X) → IsPermutation xs ys → In x xs → In x ys
In_permuted xs ys x h i = In-from_Contains ys x (Contains-permutation xs ys x h (Contains-from_In xs x i))

pub all_at : {X : Type 0} (P : X → Type 0) (xs : List X) (x : X) → AllByRecursion P xs → In x xs → P x
all_at P [] x a h = absurd h
all_at P (y ∷ ys) x a (inl e) = rw e at (a.0)
all_at P (y ∷ ys) x a (inr h) = all_at P ys x (a.1) h

pub all_from : {X : Type 0} (P : X → Type 0) (xs : List X) → ((x : X) → In x xs → P x) → AllByRecursion P xs
all_from P [] f = tt
all_from P (x ∷ xs) f = (f x (inl refl), all_from P xs (λ y h. f y (inr h)))

pub any_at : {X : Type 0} (p : X → Bool) (xs : List X) (x : X) → In x xs → p x ≡ true → list_any p xs ≡ true
any_at p xs x h t = by_test (list_any p xs) (λ e. e) (λ e. yes_is_no (p x) t (all_at (λ y. p y ≡ false) xs x (none_passes p xs e) h))

pub found_in : {X : Type 0} (p : X → Bool) (xs : List X) (x : X) → find p xs ≡ Some x → In x xs × (p x ≡ true)
found_in p [] x e = cc
found_in p (y ∷ ys) x e = by_test (p y)
    (λ t. let s : y ≡ x = let g = rw t at e in cc in (inl s, rw s at t))
    (λ t. let g = found_in p ys x (rw t at e) in (inr (g.0), g.1))

-- ---- pairs

-- where at most one passes, it is what is found
pub found_only : {X : Type 0} (p : X → Bool) (xs : List X) (x : X) → has_pair (λ a b. p a && p b) xs ≡ false → In x xs → p x ≡ true → find p xs ≡ Some x
found_only p [] x d h t = absurd h
found_only p (y ∷ ys) x d (inl e) t = let u : p y ≡ true = rw (← e) at t in rw u (ap Some e)
found_only p (y ∷ ys) x d (inr h) t =
    let g = or_parts (list_any (λ b. p y && p b) ys) (has_pair (λ a b. p a && p b) ys) d in
    by_test (p y)
    (λ u. yes_is_no (list_any (λ b. p y && p b) ys) (any_at (λ b. p y && p b) ys x h (and_from (p y) (p x) u t)) g.0)
    (λ u. rw u (found_only p ys x g.1 h t))

distinct_from : {X : Type 0} (same : X → X → Bool) (xs : List X) → has_pair same xs ≡ false → IsDistinct same xs
unfolding IsDistinct
distinct_from same [] d = tt
distinct_from same (x ∷ xs) d = let g = or_parts (list_any (same x) xs) (has_pair same xs) d in (none_passes (same x) xs g.0, distinct_from same xs g.1)

from_distinct : {X : Type 0} (same : X → X → Bool) (xs : List X) → IsDistinct same xs → has_pair same xs ≡ false
unfolding IsDistinct
from_distinct same [] d = refl
from_distinct same (x ∷ xs) d = or_from (list_any (same x) xs) (has_pair same xs) (none_pass (same x) xs (d.0)) (from_distinct same xs (d.1))

pub no_pair_permuted : {X : Type 0} (same : X → X → Bool) → ((x y : X) → same x y ≡ same y x) → (xs ys : List X) → IsPermutation xs ys → has_pair same xs ≡ false → has_pair same ys ≡ false
no_pair_permuted same flips xs ys h d = from_distinct same ys (IsDistinct-IsPermutation same flips xs ys h (distinct_from same xs d))

-- a look-up at most one element passes gives the same in another order
pub find_permuted : {X : Type 0} (p : X → Bool) (xs ys : List X) → IsPermutation xs ys → has_pair (λ a b. p a && p b) xs ≡ false → find p ys ≡ find p xs
find_permuted p xs ys h d = go (find p xs) refl
  where
    go : (o : Option _) → find p xs ≡ o → find p ys ≡ o
    go None e = not_found p ys (sym (list_any-IsPermutation p xs ys h) ∙ found_none p xs e)
    go (Some x) e = let g = found_in p xs x e in
        found_only p ys x (no_pair_permuted (λ a b. p a && p b) (λ a b. and_comm (p a) (p b)) xs ys h d) (In_permuted xs ys x h g.0) g.1

-- fewer pairs pass a stronger test of elements of a kind
pub no_pair_weaker : {X : Type 0} (P : X → Type 0) (r q : X → X → Bool) → ((a b : X) → P a → P b → q a b ≡ true → r a b ≡ true)
    → (xs : List X) → AllByRecursion P xs → has_pair r xs ≡ false → has_pair q xs ≡ false
no_pair_weaker P r q f [] a d = refl
no_pair_weaker P r q f (x ∷ xs) a d =
    let g = or_parts (list_any (r x) xs) (has_pair r xs) d in
    or_from (list_any (q x) xs) (has_pair q xs)
    (none_pass (q x) xs (all_from (λ y. q x y ≡ false) xs (λ y h. false_from_ne_true (q x y) (λ t. yes_is_no (r x y) (f x y (a.0) (all_at P xs y (a.1) h) t) (all_at (λ z. r x z ≡ false) xs y (none_passes (r x) xs g.0) h)))))
    (no_pair_weaker P r q f xs (a.1) g.1)

pub has_pair-filter : {X : Type 0} (same : X → X → Bool) (q : X → Bool) (xs : List X) → has_pair same (filter q xs) ≡ has_pair (λ x y. (q x && q y) && same x y) xs
has_pair-filter same q [] = refl
has_pair-filter same q (x ∷ xs) = by_test (q x)
    (λ t. rw t (λ i. list_any-filter (same x) q xs i || has_pair-filter same q xs i))
    (λ t. rw t (has_pair-filter same q xs ∙ sym (or_second (list_any (λ y. false) xs) (has_pair (λ a b. (q a && q b) && same a b) xs) (never xs))))
  where
    never : {Y : Type 0} (ys : List Y) → list_any (λ y. false) ys ≡ false
    never [] = refl
    never (y ∷ ys) = never ys

-- ---- lists joined

pub find_front : {X : Type 0} (p : X → Bool) (xs ys : List X) (x : X) → find p xs ≡ Some x → find p (xs ++ ys) ≡ Some x
find_front p [] ys x e = cc
find_front p (z ∷ zs) ys x e = by_test (p z) (λ t. rw t (rw t at e)) (λ t. rw t (find_front p zs ys x (rw t at e)))

pub find_back : {X : Type 0} (p : X → Bool) (xs ys : List X) → list_any p xs ≡ false → find p (xs ++ ys) ≡ find p ys
find_back p [] ys e = refl
find_back p (z ∷ zs) ys e = let g = or_parts (p z) (list_any p zs) e in rw (g.0) (find_back p zs ys g.1)

pub any_joined : {X : Type 0} (p : X → Bool) (xs ys : List X) → list_any p xs ≡ false → list_any p ys ≡ false → list_any p (xs ++ ys) ≡ false
any_joined p [] ys e f = f
any_joined p (z ∷ zs) ys e f = let g = or_parts (p z) (list_any p zs) e in or_from (p z) (list_any p (zs ++ ys)) (g.0) (any_joined p zs ys g.1 f)

pub no_pair_joined : {X : Type 0} (same : X → X → Bool) (xs ys : List X) → has_pair same xs ≡ false → has_pair same ys ≡ false → AllByRecursion (λ x. list_any (same x) ys ≡ false) xs → has_pair same (xs ++ ys) ≡ false
no_pair_joined same [] ys d e a = e
no_pair_joined same (x ∷ xs) ys d e a =
    let g = or_parts (list_any (same x) xs) (has_pair same xs) d in
    or_from (list_any (same x) (xs ++ ys)) (has_pair same (xs ++ ys)) (any_joined (same x) xs ys g.0 (a.0)) (no_pair_joined same xs ys g.1 e (a.1))

pub all_joined : {X : Type 0} (P : X → Type 0) (xs ys : List X) → AllByRecursion P xs → AllByRecursion P ys → AllByRecursion P (xs ++ ys)
all_joined P [] ys a b = b
all_joined P (x ∷ xs) ys a b = (a.0, all_joined P xs ys (a.1) b)

pub filter_all : {X : Type 0} (p : X → Bool) (xs : List X) → AllByRecursion (λ x. p x ≡ true) xs → filter p xs ≡ xs
filter_all p [] a = refl
filter_all p (x ∷ xs) a = let t = a.0 in rw t (ap (λ (l : List _). x ∷ l) (filter_all p xs (a.1)))

pub filter_none : {X : Type 0} (p : X → Bool) (xs : List X) → AllByRecursion (λ x. p x ≡ false) xs → filter p xs ≡ []
filter_none p [] a = refl
filter_none p (x ∷ xs) a = let t = a.0 in rw t (filter_none p xs (a.1))

pub In-slice_get : {X : Type 0} (xs : List X) (i : ℕ) (x : X) → slice_get xs i ≡ Some x → In x xs
In-slice_get [] i x e = cc
In-slice_get (y ∷ ys) zero x e = let h : y ≡ x = cc in inl h
In-slice_get (y ∷ ys) (suc i) x e = inr (In-slice_get ys i x e)

-- the elements by their places, from k on
pub each_present : {X : Type 0} (f : ℕ → Option X) (xs : List X) (k : ℕ) → ((i j : ℕ) → j ≡ k + i → f j ≡ slice_get xs i) → all_present (map f (numbers_from k (length xs))) ≡ Some xs
each_present f [] k h = refl
each_present f (x ∷ xs) k h = rw (h 0 k (omega arith), each_present f xs (k + 1) (λ i j e. h (suc i) j (omega arith)))

-- ---- what a filter keeps

pub any_kept : {X : Type 0} (p q : X → Bool) (xs : List X) → list_any p xs ≡ false → list_any p (filter q xs) ≡ false
any_kept p q [] e = refl
any_kept p q (x ∷ xs) e = let g = or_parts (p x) (list_any p xs) e in
    by_test (q x) (λ t. rw t (or_from (p x) (list_any p (filter q xs)) (g.0) (any_kept p q xs g.1))) (λ t. rw t (any_kept p q xs g.1))

pub no_pair_kept : {X : Type 0} (same : X → X → Bool) (q : X → Bool) (xs : List X) → has_pair same xs ≡ false → has_pair same (filter q xs) ≡ false
no_pair_kept same q [] e = refl
no_pair_kept same q (x ∷ xs) e = let g = or_parts (list_any (same x) xs) (has_pair same xs) e in
    by_test (q x) (λ t. rw t (or_from (list_any (same x) (filter q xs)) (has_pair same (filter q xs)) (any_kept (same x) q xs g.0) (no_pair_kept same q xs g.1))) (λ t. rw t (no_pair_kept same q xs g.1))

pub all_kept : {X : Type 0} (P : X → Type 0) (q : X → Bool) (xs : List X) → AllByRecursion P xs → AllByRecursion P (filter q xs)
all_kept P q [] a = tt
all_kept P q (x ∷ xs) a = by_test (q x) (λ t. rw t (a.0, all_kept P q xs (a.1))) (λ t. rw t (all_kept P q xs (a.1)))

-- ---- heads and tails

pub same_head : {X : Type 0} (x y : X) (xs ys : List X) → x ∷ xs ≡ y ∷ ys → x ≡ y
same_head x y xs ys e = cc

pub same_tail : {X : Type 0} (x y : X) (xs ys : List X) → x ∷ xs ≡ y ∷ ys → xs ≡ ys
same_tail x y xs ys e = cc

pub filter_yes : {X : Type 0} (p : X → Bool) (x : X) (xs : List X) → p x ≡ true → filter p (x ∷ xs) ≡ x ∷ filter p xs
filter_yes p x xs t = rw t

pub filter_no : {X : Type 0} (p : X → Bool) (x : X) (xs : List X) → p x ≡ false → filter p (x ∷ xs) ≡ filter p xs
filter_no p x xs t = rw t

pub filter_same : {X : Type 0} (p : X → Bool) (x : X) (xs ys : List X) → filter p xs ≡ filter p ys → filter p (x ∷ xs) ≡ filter p (x ∷ ys)
filter_same {X} p x xs ys e = by_test (p x) (λ t. rw t (ap (λ (l : List X). x ∷ l) e)) (λ t. rw t e)

pub length-filter-le : {X : Type 0} (p : X → Bool) (xs : List X) → length (filter p xs) ≤ length xs
length-filter-le p [] = omega arith
length-filter-le p (x ∷ xs) = by_test (p x) (λ t. rw t (omega (arith, length-filter-le p xs))) (λ t. rw t (omega (arith, length-filter-le p xs)))

-- ---- what holds of each element

pub all_weaker : {X : Type 0} (P Q : X → Type 0) (xs : List X) → ((x : X) → P x → Q x) → AllByRecursion P xs → AllByRecursion Q xs
all_weaker P Q [] f h = tt
all_weaker P Q (x ∷ xs) f h = (f x h.0, all_weaker P Q xs f h.1)

pub all_from_places : {X : Type 0} (P : X → Type 0) (xs : List X) → ((k : ℕ) (d : X) → k < length xs → P (slice_index_or xs k d)) → AllByRecursion P xs
all_from_places P [] f = tt
all_from_places P (x ∷ xs) f = (f 0 x (omega arith), all_from_places P xs (λ k d h. f (suc k) d (omega arith)))

pub all_mapped : {X : Type 0} (P : X → Type 0) (f : ℕ → X) → ((i : ℕ) → P (f i)) → (ns : List ℕ) → AllByRecursion P (map f ns)
all_mapped P f each [] = tt
all_mapped P f each (n ∷ ns) = (each n, all_mapped P f each ns)

pub all_dropped : {X : Type 0} (P : X → Type 0) (xs : List X) (i : ℕ) → AllByRecursion P xs → AllByRecursion P (drop i xs)
all_dropped P xs zero h = h
all_dropped P [] (suc i) h = tt
all_dropped P (x ∷ xs) (suc i) h = all_dropped P xs i h.1

-- what is still to come begins with the element at the index
pub drop_next : {X : Type 0} (xs : List X) (i : ℕ) (x : X) → i < length xs → x ≡ get_or xs i x → drop i xs ≡ x ∷ drop (i + 1) xs
drop_next [] i x h e = absurd (omega (arith, h))
drop_next (y ∷ ys) zero x h e = ap (λ z. z ∷ ys) (sym e)
drop_next (y ∷ ys) (suc i) x h e = drop_next ys i x (omega (arith, h)) e ∙ (let k : suc (i + 1) ≡ suc i + 1 = omega arith in ap (λ j. x ∷ drop j (y ∷ ys)) k)

-- ---- images of lists

-- what is found among images is the image of what is found
pub find-map : {X Y : Type 0} (p : Y → Bool) (f : X → Y) (xs : List X) → find p (map f xs) ≡ option_map f (find (λ x. p (f x)) xs)
find-map p f [] = refl
find-map p f (x ∷ xs) = by_test (p (f x)) (λ t. rw t refl) (λ t. rw t (find-map p f xs))

pub has_pair-map : {X Y : Type 0} (p : Y → Y → Bool) (f : X → Y) (xs : List X) → has_pair p (map f xs) ≡ has_pair (λ a b. p (f a) (f b)) xs
has_pair-map p f [] = refl
has_pair-map p f (x ∷ xs) = λ i. list_any-map (p (f x)) f xs i || has_pair-map p f xs i

-- ---- numbers in a row

pub length-numbers_from : (i n : ℕ) → length (numbers_from i n) ≡ n
length-numbers_from i zero = refl
length-numbers_from i (suc n) = ap suc (length-numbers_from (i + 1) n)

pub mapped_at : {X : Type 0} (f : ℕ → X) (i n j : ℕ) → j < n → slice_get (map f (numbers_from i n)) j ≡ Some (f (i + j))
mapped_at f i zero j h = absurd (omega arith)
mapped_at f i (suc n) zero h = let e : i ≡ i + 0 = omega arith in ap (λ k. Some (f k)) e
mapped_at f i (suc n) (suc j) h = mapped_at f (i + 1) n j (omega arith) ∙ (let e : i + 1 + j ≡ i + suc j = omega arith in ap (λ k. Some (f k)) e)

pub tabulated_at : {X : Type 0} (f : ℕ → X) (n j : ℕ) → j < n → slice_get (tabulated n f) j ≡ Some (f j)
tabulated_at f n j h = mapped_at f 0 n j h ∙ (let e : 0 + j ≡ j = omega arith in ap (λ k. Some (f k)) e)

-- a test of each number from i on
pub each_number : (test : ℕ → Bool) (i n : ℕ) → list_all test (numbers_from i n) ≡ true → (k : ℕ) → i ≤ k → k < i + n → test k ≡ true
each_number test i zero h k low high = absurd (omega arith)
each_number test i (suc n) h k low high =
    let parts = and_parts (test i) (list_all test (numbers_from (i + 1) n)) h in
    elim (cases_eq i k) [
      | inl same ↦ subst (λ (m : ℕ). test m ≡ true) same parts.0
      | inr other ↦ each_number test (i + 1) n parts.1 k (omega arith) (omega arith)
    ]
