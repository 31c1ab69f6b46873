-- Members of lists, and lists in strict order: those with the same members are one.
use Rattle.std.proofs.Common.{◌≡◌, ℕ, zero, suc, ◌+◌, ◌<◌, ◌≤◌, ◌⊎◌, inl, inr, Bool, true, false, List, [], ◌∷◌, ◌++◌, refl, sym, ap, subst, ◌∙◌, arith, Ordering}
use Rattle.std.specs.Prelude.{map, filter}
use Rattle.std.specs.List.{AllByRecursion, flat_map, range_with_len}
use Rattle.std.specs.Ordering.{is_lt}
use Rattle.std.specs.Cmp.{IsStrictWeakOrder}
use Rattle.std.proofs.lemmas.Bool.{cases_eq}
use Rattle.msi_base.specs.Lists.{placed, stable_sort}
use Rattle.msi_base.proofs.BoolLemmas.{by_test, yes_is_no}
use Rattle.msi_base.proofs.ListLemmas.{In, all_at, all_from, all_weaker, filter_yes, filter_no}

-- ---- members of lists

pub in_first : {X : Type 0} (x : X) (xs ys : List X) → In x xs → In x (xs ++ ys)
in_first x [] ys h = absurd h
in_first x (y ∷ xs) ys (inl e) = inl e
in_first x (y ∷ xs) ys (inr h) = inr (in_first x xs ys h)

pub in_second : {X : Type 0} (x : X) (xs ys : List X) → In x ys → In x (xs ++ ys)
in_second x [] ys h = h
in_second x (y ∷ xs) ys h = inr (in_second x xs ys h)

pub in_either : {X : Type 0} (x : X) (xs ys : List X) → In x (xs ++ ys) → In x xs ⊎ In x ys
in_either x [] ys h = inr h
in_either x (y ∷ xs) ys (inl e) = inl (inl e)
in_either x (y ∷ xs) ys (inr h) = elim (in_either x xs ys h) [ inl a ↦ inl (inr a) | inr b ↦ inr b ]

pub in_map : {X Y : Type 0} (f : X → Y) (x : X) (xs : List X) → In x xs → In (f x) (map f xs)
in_map f x [] h = absurd h
in_map f x (y ∷ xs) (inl e) = inl (ap f e)
in_map f x (y ∷ xs) (inr h) = inr (in_map f x xs h)

pub of_map : {X Y : Type 0} (f : X → Y) (y : Y) (xs : List X) → In y (map f xs) → (x : X) × In x xs × (f x ≡ y)
of_map f y [] h = absurd h
of_map f y (x ∷ xs) (inl e) = (x, inl refl, e)
of_map f y (x ∷ xs) (inr h) = let g = of_map f y xs h in (g.0, inr g.1, g.2)

pub in_flat_map : {X Y : Type 0} (f : X → List Y) (x : X) (y : Y) (xs : List X) → In x xs → In y (f x) → In y (flat_map f xs)
in_flat_map f x y [] h k = absurd h
in_flat_map f x y (z ∷ xs) (inl e) k = in_first y (f z) (flat_map f xs) (subst (λ w. In y (f w)) (sym e) k)
in_flat_map f x y (z ∷ xs) (inr h) k = in_second y (f z) (flat_map f xs) (in_flat_map f x y xs h k)

pub of_flat_map : {X Y : Type 0} (f : X → List Y) (y : Y) (xs : List X) → In y (flat_map f xs) → (x : X) × In x xs × In y (f x)
of_flat_map f y [] h = absurd h
of_flat_map f y (x ∷ xs) h = elim (in_either y (f x) (flat_map f xs) h) [
  | inl a ↦ (x, inl refl, a)
  | inr b ↦ let g = of_flat_map f y xs b in (g.0, inr g.1, g.2)
]

pub in_filter : {X : Type 0} (p : X → Bool) (x : X) (xs : List X) → In x xs → p x ≡ true → In x (filter p xs)
in_filter p x [] h t = absurd h
in_filter {X} p x (y ∷ xs) (inl e) t = let u : p y ≡ true = ap p e ∙ t in subst (λ (l : List X). In x l) (sym (filter_yes p y xs u)) (inl e)
in_filter {X} p x (y ∷ xs) (inr h) t = by_test (p y)
    (λ u. subst (λ (l : List X). In x l) (sym (filter_yes p y xs u)) (inr (in_filter p x xs h t)))
    (λ u. subst (λ (l : List X). In x l) (sym (filter_no p y xs u)) (in_filter p x xs h t))

pub of_filter : {X : Type 0} (p : X → Bool) (x : X) (xs : List X) → In x (filter p xs) → In x xs × (p x ≡ true)
of_filter p x [] h = absurd h
of_filter {X} p x (y ∷ xs) h = by_test (p y)
    (λ u. let k : In x (y ∷ filter p xs) = subst (λ (l : List X). In x l) (filter_yes p y xs u) h in
    elim k as (λ _. (In x (y ∷ xs) × (p x ≡ true))) [
      | inl e ↦ (inl e, ap p (sym e) ∙ u)
      | inr m ↦ let g = of_filter p x xs m in (inr g.0, g.1)
    ])
    (λ u. let g = of_filter p x xs (subst (λ (l : List X). In x l) (filter_no p y xs u) h) in (inr g.0, g.1))

pub in_numbers : (i k n : ℕ) → k ≤ i → i < k + n → In i (range_with_len k n)
in_numbers i k zero low high = absurd (omega arith)
in_numbers i k (suc n) low high = elim (cases_eq k i) [
  | inl e ↦ inl e
  | inr h ↦ inr (in_numbers i (k + 1) n (omega (arith, h, low)) (omega arith))
]

pub of_numbers : (i k n : ℕ) → In i (range_with_len k n) → (k ≤ i) × (i < k + n)
of_numbers i k zero h = absurd h
of_numbers i k (suc n) (inl e) = (omega (arith, e), omega (arith, e))
of_numbers i k (suc n) (inr h) = let g = of_numbers i (k + 1) n h in (omega (arith, g.0), omega (arith, g.1))

-- ---- no element twice

abbrev pub IsOnce : {X : Type 0} → List X → Type 0
IsOnce [] = Unit {0}
IsOnce (x ∷ xs) = (In x xs → ⊥) × IsOnce xs

pub once_joined : {X : Type 0} (xs ys : List X) → IsOnce xs → IsOnce ys → ((x : X) → In x xs → In x ys → ⊥) → IsOnce (xs ++ ys)
once_joined [] ys a b f = b
once_joined (x ∷ xs) ys a b f =
    (λ h. elim (in_either x xs ys h) [ inl k ↦ a.0 k | inr k ↦ f x (inl refl) k ], once_joined xs ys a.1 b (λ z h k. f z (inr h) k))

pub once_filter : {X : Type 0} (p : X → Bool) (xs : List X) → IsOnce xs → IsOnce (filter p xs)
once_filter p [] a = tt
once_filter {X} p (x ∷ xs) a = by_test (p x)
    (λ t. subst (λ (l : List X). IsOnce l) (sym (filter_yes p x xs t)) (λ h. a.0 (of_filter p x xs h).0, once_filter p xs a.1))
    (λ t. subst (λ (l : List X). IsOnce l) (sym (filter_no p x xs t)) (once_filter p xs a.1))

-- images from which the elements come back
pub once_map : {X Y : Type 0} (f : X → Y) (back : Y → X) (xs : List X) → ((x : X) → In x xs → back (f x) ≡ x) → IsOnce xs → IsOnce (map f xs)
once_map f back [] b a = tt
once_map f back (x ∷ xs) b a = (
  λ h. let g = of_map f (f x) xs h in a.0 (subst (λ z. In z xs) (sym (b g.0 (inr g.1)) ∙ ap back g.2 ∙ b x (inl refl)) g.1),
  once_map f back xs (λ z h. b z (inr h)) a.1,
)

pub once_flat_map : {X Y : Type 0} (f : X → List Y) (back : Y → X) (xs : List X) → ((x : X) (y : Y) → In x xs → In y (f x) → back y ≡ x)
    → ((x : X) → In x xs → IsOnce (f x)) → IsOnce xs → IsOnce (flat_map f xs)
once_flat_map f back [] b each a = tt
once_flat_map f back (x ∷ xs) b each a =
    once_joined (f x) (flat_map f xs) (each x (inl refl)) (once_flat_map f back xs (λ z y h k. b z y (inr h) k) (λ z h. each z (inr h)) a.1)
    (λ y h k. let g = of_flat_map f y xs k in a.0 (subst (λ z. In z xs) (sym (b g.0 y (inr g.1) g.2) ∙ b x y (inl refl) h) g.1))

pub once_numbers : (k n : ℕ) → IsOnce (range_with_len k n)
once_numbers k zero = tt
once_numbers k (suc n) = (λ h. let g = of_numbers k (k + 1) n h in absurd (omega (arith, g.0)), once_numbers (k + 1) n)

-- ---- strict order

-- each element is below all behind it
abbrev pub Rises : {X : Type 0} → (X → X → Bool) → List X → Type 0
Rises lt [] = Unit {0}
Rises lt (x ∷ xs) = AllByRecursion (λ y. lt x y ≡ true) xs × Rises lt xs

pub rises_joined : {X : Type 0} (lt : X → X → Bool) (xs ys : List X) → Rises lt xs → Rises lt ys → ((x y : X) → In x xs → In y ys → lt x y ≡ true) → Rises lt (xs ++ ys)
rises_joined lt [] ys u v f = v
rises_joined lt (x ∷ xs) ys u v f = (
  all_from (λ y. lt x y ≡ true) (xs ++ ys) (λ y h. elim (in_either y xs ys h) [ inl k ↦ all_at (λ y. lt x y ≡ true) xs y u.0 k | inr k ↦ f x y (inl refl) k ]),
  rises_joined lt xs ys u.1 v (λ z y h k. f z y (inr h) k),
)

pub rises_flat_map : {X Y : Type 0} (below : X → X → Bool) (lt : Y → Y → Bool) (f : X → List Y) (xs : List X) → Rises below xs
    → ((x : X) → In x xs → Rises lt (f x)) → ((x z : X) (y w : Y) → In x xs → In z xs → below x z ≡ true → In y (f x) → In w (f z) → lt y w ≡ true)
    → Rises lt (flat_map f xs)
rises_flat_map below lt f [] u each h = tt
rises_flat_map below lt f (x ∷ xs) u each h =
    rises_joined lt (f x) (flat_map f xs) (each x (inl refl)) (rises_flat_map below lt f xs u.1 (λ z k. each z (inr k)) (λ z v y w a b t p q. h z v y w (inr a) (inr b) t p q))
    (λ y w p q. let g = of_flat_map f w xs q in h x g.0 y w (inl refl) (inr g.1) (all_at (λ z. below x z ≡ true) xs g.0 u.0 g.1) p g.2)

pub rises_map : {X Y : Type 0} (below : X → X → Bool) (lt : Y → Y → Bool) (f : X → Y) (xs : List X) → ((x z : X) → below x z ≡ true → lt (f x) (f z) ≡ true) → Rises below xs → Rises lt (map f xs)
rises_map below lt f [] h u = tt
rises_map below lt f (x ∷ xs) h u = (
  all_from (λ y. lt (f x) y ≡ true) (map f xs) (λ y k. let g = of_map f y xs k in subst (λ w. lt (f x) w ≡ true) g.2 (h x g.0 (all_at (λ z. below x z ≡ true) xs g.0 u.0 g.1))),
  rises_map below lt f xs h u.1,
)

pub rises_filter : {X : Type 0} (lt : X → X → Bool) (p : X → Bool) (xs : List X) → Rises lt xs → Rises lt (filter p xs)
rises_filter lt p [] u = tt
rises_filter {X} lt p (x ∷ xs) u = by_test (p x)
    (λ t. subst (λ (l : List X). Rises lt l) (sym (filter_yes p x xs t))
    (all_from (λ y. lt x y ≡ true) (filter p xs) (λ y h. all_at (λ y. lt x y ≡ true) xs y u.0 (of_filter p y xs h).0), rises_filter lt p xs u.1))
    (λ t. subst (λ (l : List X). Rises lt l) (sym (filter_no p x xs t)) (rises_filter lt p xs u.1))

module _ {X : Type 0} (lt : X → X → Bool) (o : IsStrictWeakOrder lt) where
  never_itself : (x : X) → lt x x ≡ true → ⊥
  never_itself x t = yes_is_no (lt x x) t (o.one_way x x t)

  goes_over : (x y z : X) → lt x y ≡ true → lt y z ≡ true → lt x z ≡ true
  goes_over x y z t u = by_test (lt x z) (λ e. e) (λ e. yes_is_no (lt x y) t (o.chain x z y e (o.one_way y z u)))

  same_heads : (x y : X) (xs ys : List X) → AllByRecursion (λ z. lt x z ≡ true) xs → AllByRecursion (λ z. lt y z ≡ true) ys → In x (y ∷ ys) → In y (x ∷ xs) → x ≡ y
  same_heads x y xs ys u v (inl e) k = sym e
  same_heads x y xs ys u v (inr h) (inl e) = e
  same_heads x y xs ys u v (inr h) (inr k) =
      yes_is_no (lt y x) (all_at (λ z. lt y z ≡ true) ys x v h) (o.one_way x y (all_at (λ z. lt x z ≡ true) xs y u k))

  behind : (x y : X) (xs ys : List X) → AllByRecursion (λ z. lt x z ≡ true) xs → x ≡ y → (z : X) → In z xs → In z (y ∷ ys) → In z ys
  behind x y xs ys u e z h (inl k) = absurd (never_itself x (subst (λ w. lt x w ≡ true) (sym (e ∙ k)) (all_at (λ w. lt x w ≡ true) xs z u h)))
  behind x y xs ys u e z h (inr k) = k

  -- two lists in strict order with the same members
  pub same_members : (xs ys : List X) → Rises lt xs → Rises lt ys → ((x : X) → In x xs → In x ys) → ((x : X) → In x ys → In x xs) → xs ≡ ys
  same_members [] [] u v f g = refl
  same_members [] (y ∷ ys) u v f g = absurd (g y (inl refl))
  same_members (x ∷ xs) [] u v f g = absurd (f x (inl refl))
  same_members (x ∷ xs) (y ∷ ys) u v f g =
      let e : x ≡ y = same_heads x y xs ys u.0 v.0 (f x (inl refl)) (g y (inl refl)) in
      ap (λ (l : List X). x ∷ l) (same_members xs ys u.1 v.1 (λ z h. behind x y xs ys u.0 e z h (f z (inr h))) (λ z h. behind y x ys xs v.0 (sym e) z h (g z (inr h))))
      ∙ ap (λ (z : X). z ∷ ys) e

module _ {X : Type 0} (cmp : X → X → Ordering) where
  pub in_placed : (z x : X) (ys : List X) → In z (x ∷ ys) → In z (placed cmp x ys)
  in_placed z x [] h = h
  in_placed z x (y ∷ ys) h = by_test (is_lt (cmp y x))
      (λ t. rw t (elim h [
        | inl e ↦ inr (in_placed z x ys (inl e))
        | inr k ↦ elim k [ inl e ↦ inl e | inr m ↦ inr (in_placed z x ys (inr m)) ]
      ]))
      (λ t. rw t h)

  pub of_placed : (z x : X) (ys : List X) → In z (placed cmp x ys) → In z (x ∷ ys)
  of_placed z x [] h = h
  of_placed z x (y ∷ ys) h = by_test (is_lt (cmp y x))
      (λ t. let k : In z (y ∷ placed cmp x ys) = rw t at h in
      elim k as (λ _. In z (x ∷ y ∷ ys)) [
        | inl e ↦ inr (inl e)
        | inr m ↦ elim (of_placed z x ys m) [ inl e ↦ inl e | inr n ↦ inr (inr n) ]
      ])
      (λ t. rw t at h)

  pub in_sorted : (z : X) (xs : List X) → In z xs → In z (stable_sort cmp xs)
  in_sorted z [] h = h
  in_sorted z (x ∷ xs) (inl e) = in_placed z x (stable_sort cmp xs) (inl e)
  in_sorted z (x ∷ xs) (inr h) = in_placed z x (stable_sort cmp xs) (inr (in_sorted z xs h))

  pub of_sorted : (z : X) (xs : List X) → In z (stable_sort cmp xs) → In z xs
  of_sorted z [] h = h
  of_sorted z (x ∷ xs) h = elim (of_placed z x (stable_sort cmp xs) h) [ inl e ↦ inl e | inr k ↦ inr (of_sorted z xs k) ]

module _ {X : Type 0} (cmp : X → X → Ordering) (o : IsStrictWeakOrder (λ x y. is_lt (cmp x y))) (strict : (x y : X) → is_lt (cmp x y) ≡ false → is_lt (cmp y x) ≡ false → x ≡ y) where
  rises_placed : (x : X) (ys : List X) → Rises (λ x y. is_lt (cmp x y)) ys → (In x ys → ⊥) → Rises (λ x y. is_lt (cmp x y)) (placed cmp x ys)
  rises_placed x [] u n = (tt, tt)
  rises_placed x (y ∷ ys) u n = by_test (is_lt (cmp y x))
      (λ t. rw t (
        all_from (λ z. is_lt (cmp y z) ≡ true) (placed cmp x ys) (λ z h. elim (of_placed cmp z x ys h) [
          | inl e ↦ subst (λ w. is_lt (cmp y w) ≡ true) e t
          | inr k ↦ all_at (λ z. is_lt (cmp y z) ≡ true) ys z u.0 k
        ]),
        rises_placed x ys u.1 (λ h. n (inr h)),
      ))
      (λ t. by_test (is_lt (cmp x y))
      (λ s. rw t ((s, all_weaker (λ z. is_lt (cmp y z) ≡ true) (λ z. is_lt (cmp x z) ≡ true) ys (λ z k. goes_over (λ x y. is_lt (cmp x y)) o x y z s k) u.0), u))
      (λ s. absurd (n (inl (strict y x t s)))))

  -- a stable sort of distinct elements
  pub rises_sorted : (xs : List X) → IsOnce xs → Rises (λ x y. is_lt (cmp x y)) (stable_sort cmp xs)
  rises_sorted [] a = tt
  rises_sorted (x ∷ xs) a = rises_placed x (stable_sort cmp xs) (rises_sorted xs a.1) (λ h. a.0 (of_sorted cmp x xs h))
