-- What is found among elements in the order of their keys.
use Rattle.std.proofs.Common.{◌≡◌, ℕ, zero, suc, ◌<◌, ◌≤◌, Bool, true, false, List, [], ◌∷◌, length, take, drop, get_or, filter, refl, sym, ap, subst, ◌∙◌, arith, Ordering}
use Rattle.std.specs.List.Sorted.{IsNonDecreasingBy, IsPartitionPoint, IsPartitionedBy}
use Rattle.std.specs.declared.cmp.Ordering.TheVariants.{Less, Equal, Greater}
use Rattle.std.specs.Ordering.{is_lt, is_le, is_eq, ordering_index, ordering_reverse}
use Rattle.std.specs.Cmp.{IsStrictWeakOrder, IsTotalOrder}
use Rattle.std.proofs.lemmas.List.Sorted.{IsNonDecreasingBy-drop, ranks_by, searchable_from_sorted}
use Rattle.msi_base.specs.Lists.{placed, stable_sort}
use Rattle.msi_base.proofs.BoolLemmas.{by_test}
use Rattle.msi_base.proofs.ListLemmas.{filter_yes, filter_no, filter_same}
use Rattle.msi_table_cells.proofs.StableSortLemmas.{only_stable_sort}

-- Filters that a stable sort leaves as they are: of what they keep, none is below another
module _ {X : Type 0} (cmp : X → X → Ordering) (p : X → Bool) (tied : (x y : X) → p x ≡ true → p y ≡ true → is_lt (cmp y x) ≡ false) where
  swapped : (x y : X) (zs : List X) → is_lt (cmp y x) ≡ true → filter p (y ∷ x ∷ zs) ≡ filter p (x ∷ y ∷ zs)
  swapped x y zs h = by_test (p x)
      (λ t. by_test (p y)
      (λ u. let f : is_lt (cmp y x) ≡ false = tied x y t u in cc)
      (λ u. filter_no p y (x ∷ zs) u ∙ filter_same p x zs (y ∷ zs) (sym (filter_no p y zs u))))
      (λ t. filter_same p y (x ∷ zs) zs (filter_no p x zs t) ∙ sym (filter_no p x (y ∷ zs) t))

  goes_on : (x y : X) (ys : List X) → is_lt (cmp y x) ≡ true → placed cmp x (y ∷ ys) ≡ y ∷ placed cmp x ys
  goes_on x y ys h = rw h

  goes_here : (x y : X) (ys : List X) → is_lt (cmp y x) ≡ false → placed cmp x (y ∷ ys) ≡ x ∷ y ∷ ys
  goes_here x y ys h = rw h

  filter_placed : (x : X) (ys : List X) → filter p (placed cmp x ys) ≡ filter p (x ∷ ys)
  filter_placed x [] = refl
  filter_placed x (y ∷ ys) = by_test (is_lt (cmp y x))
      (λ h. ap (filter p) (goes_on x y ys h) ∙ filter_same p y (placed cmp x ys) (x ∷ ys) (filter_placed x ys) ∙ swapped x y ys h)
      (λ h. ap (filter p) (goes_here x y ys h))

  pub filter_sorted : (xs : List X) → filter p (stable_sort cmp xs) ≡ filter p xs
  filter_sorted [] = refl
  filter_sorted (x ∷ xs) = filter_placed x (stable_sort cmp xs) ∙ filter_same p x (stable_sort cmp xs) xs (filter_sorted xs)

-- Between the elements below and those above stand those that a filter keeps
module _ {X : Type 0} (o : X → Ordering) where
  one_kept : (x : X) → is_lt (o x) ≡ false → is_le (o x) ≡ true → is_eq (o x) ≡ true
  one_kept x l m = of_order (o x) l m where
    of_order : (w : Ordering) → is_lt w ≡ false → is_le w ≡ true → is_eq w ≡ true
    of_order Less l m = cc
    of_order Equal l m = refl
    of_order Greater l m = cc

  below_out : (x : X) → is_lt (o x) ≡ true → is_eq (o x) ≡ false
  below_out x l = of_order (o x) l where
    of_order : (w : Ordering) → is_lt w ≡ true → is_eq w ≡ false
    of_order Less l = refl
    of_order Equal l = cc
    of_order Greater l = cc

  above_out : (x : X) → is_le (o x) ≡ false → is_eq (o x) ≡ false
  above_out x l = of_order (o x) l where
    of_order : (w : Ordering) → is_le w ≡ false → is_eq w ≡ false
    of_order Less l = cc
    of_order Equal l = cc
    of_order Greater l = refl

  none_above : (xs : List X) → ((k : ℕ) (d : X) → k < length xs → is_le (o (get_or xs k d)) ≡ false) → filter (λ x. is_eq (o x)) xs ≡ []
  none_above [] f = refl
  none_above (x ∷ xs) f = filter_no (λ x. is_eq (o x)) x xs (above_out x (f 0 x (omega arith))) ∙ none_above xs (λ k d h. f (suc k) d (omega arith))

  first_kept : (xs : List X) (j : ℕ) → j ≤ length xs → ((k : ℕ) (d : X) → k < length xs → is_lt (o (get_or xs k d)) ≡ false)
      → ((k : ℕ) (d : X) → k < j → is_le (o (get_or xs k d)) ≡ true) → ((k : ℕ) (d : X) → j ≤ k → k < length xs → is_le (o (get_or xs k d)) ≡ false)
      → take j xs ≡ filter (λ x. is_eq (o x)) xs
  first_kept xs zero b f g h = sym (none_above xs (λ k d l. h k d (omega arith) l))
  first_kept [] (suc j) b f g h = refl
  first_kept (x ∷ xs) (suc j) b f g h =
      ap (λ (l : List X). x ∷ l) (first_kept xs j (omega arith) (λ k d l. f (suc k) d (omega arith)) (λ k d l. g (suc k) d (omega arith)) (λ k d l m. h (suc k) d (omega arith) (omega arith)))
      ∙ sym (filter_yes (λ x. is_eq (o x)) x xs (one_kept x (f 0 x (omega arith)) (g 0 x (omega arith))))

  pub between : (xs : List X) (i j : ℕ) → j ≤ length (drop i xs) → ((k : ℕ) (d : X) → k < i → k < length xs → is_lt (o (get_or xs k d)) ≡ true)
      → ((k : ℕ) (d : X) → i ≤ k → k < length xs → is_lt (o (get_or xs k d)) ≡ false)
      → ((k : ℕ) (d : X) → k < j → is_le (o (get_or (drop i xs) k d)) ≡ true) → ((k : ℕ) (d : X) → j ≤ k → k < length (drop i xs) → is_le (o (get_or (drop i xs) k d)) ≡ false)
      → take j (drop i xs) ≡ filter (λ x. is_eq (o x)) xs
  between xs zero j b f g m n = first_kept xs j b (λ k d l. g k d (omega arith) l) m n
  between [] (suc i) zero b f g m n = refl
  between [] (suc i) (suc j) b f g m n = refl
  between (x ∷ xs) (suc i) j b f g m n =
      between xs i j b (λ k d l h. f (suc k) d (omega arith) (omega arith)) (λ k d l h. g (suc k) d (omega arith) (omega arith)) m n
      ∙ sym (filter_no (λ x. is_eq (o x)) x xs (below_out x (f 0 x (omega arith) (omega arith))))

lt_down : (u v : Ordering) → ordering_index u ≤ ordering_index v → is_lt v ≡ true → is_lt u ≡ true
lt_down Less v h e = refl
lt_down Equal Less h e = absurd (omega arith)
lt_down Equal Equal h e = cc
lt_down Equal Greater h e = cc
lt_down Greater Less h e = absurd (omega arith)
lt_down Greater Equal h e = cc
lt_down Greater Greater h e = cc

le_down : (u v : Ordering) → ordering_index u ≤ ordering_index v → is_le v ≡ true → is_le u ≡ true
le_down Less v h e = refl
le_down Equal v h e = refl
le_down Greater Less h e = absurd (omega arith)
le_down Greater Equal h e = absurd (omega arith)
le_down Greater Greater h e = cc

-- elements by their keys
module _ {X K : Type 0} {R : K → K → Ordering} (total : IsTotalOrder R) (key : X → K) where
  abbrev pub key_cmp : X → X → Ordering
  key_cmp x y = R (key x) (key y)

  abbrev pub has_key : K → X → Bool
  has_key k x = is_eq (R (key x) k)

  pub key_cmp-weak : IsStrictWeakOrder (λ x y. is_lt (key_cmp x y))
  key_cmp-weak = ranks_by total key

  rises : (xs before : List X) (k : K) → xs ≡ stable_sort key_cmp before → IsNonDecreasingBy (λ x. ordering_index (R (key x) k)) xs
  rises xs before k e = searchable_from_sorted total key xs k ((only_stable_sort key_cmp key_cmp-weak before xs).0 e).ascends

  pub parted_below : (xs before : List X) (k : K) → xs ≡ stable_sort key_cmp before → IsPartitionedBy (λ x. is_lt (R (key x) k)) xs
  parted_below xs before k e i j d h l t = lt_down _ (R (key (get_or xs j d)) k) (rises xs before k e i j d h l) t

  pub parted_above : (xs before tail : List X) (k : K) (n : ℕ) → xs ≡ stable_sort key_cmp before → tail ≡ drop n xs → IsPartitionedBy (λ x. is_le (R (key x) k)) tail
  parted_above xs before tail k n e q = subst (λ (ys : List X). IsPartitionedBy (λ x. is_le (R (key x) k)) ys) (sym q)
      (λ i j d h l t. le_down _ (R (key (get_or (drop n xs) j d)) k)
      (IsNonDecreasingBy-drop (λ x. ordering_index (R (key x) k)) n xs (rises xs before k e) i j d h l) t)

  equal_of : (o : Ordering) → is_eq o ≡ true → o ≡ Equal
  equal_of Less t = cc
  equal_of Equal t = refl
  equal_of Greater t = cc

  alike : (k : K) (x y : X) → has_key k x ≡ true → has_key k y ≡ true → is_lt (key_cmp y x) ≡ false
  alike k x y t u =
      ap is_lt (total.congr (key y) k (key x) (equal_of (R (key y) k) u) ∙ total.antisymm k (key x) ∙ ap ordering_reverse (equal_of (R (key x) k) t))

  found_behind : (xs before : List X) (k : K) (i j : ℕ) → xs ≡ stable_sort key_cmp before → j ≤ length (drop i xs)
      → IsPartitionPoint (λ x. is_lt (R (key x) k) ≡ true) (λ x. is_lt (R (key x) k) ≡ false) xs i
      → IsPartitionPoint (λ x. is_le (R (key x) k) ≡ true) (λ x. is_le (R (key x) k) ≡ false) (drop i xs) j
      → take j (drop i xs) ≡ filter (has_key k) before
  found_behind xs before k i j e b f g =
      between (λ x. R (key x) k) xs i j b
      (λ n d h l. f.0 n d (omega arith) h) (λ n d h l. f.1 n d h l) (λ n d h. g.0 n d (omega arith) h) (λ n d h l. g.1 n d h l)
      ∙ ap (filter (has_key k)) e
      ∙ filter_sorted key_cmp (has_key k) (alike k) before

  pub found : (xs before tail : List X) (k : K) (i j : ℕ) → xs ≡ stable_sort key_cmp before → tail ≡ drop i xs → j ≤ length tail
      → IsPartitionPoint (λ x. is_lt (R (key x) k) ≡ true) (λ x. is_lt (R (key x) k) ≡ false) xs i
      → IsPartitionPoint (λ x. is_le (R (key x) k) ≡ true) (λ x. is_le (R (key x) k) ≡ false) tail j
      → take j tail ≡ filter (has_key k) before
  found xs before tail k i j e q b f = subst (λ (ys : List X). j ≤ length ys
      → IsPartitionPoint (λ x. is_le (R (key x) k) ≡ true) (λ x. is_le (R (key x) k) ≡ false) ys j
      → take j ys ≡ filter (has_key k) before) (sym q) (λ b g. found_behind xs before k i j e b f g) b
