-- Products by the numbers of their rows.
use Rattle.std.proofs.Common.{◌≡◌, ℕ, zero, suc, ◌+◌, ◌-◌, ◌<◌, ◌≤◌, Bool, List, [], ◌∷◌, ◌++◌, length, drop, refl, sym, ap, subst, ◌∙◌, arith, ltb-true, ltb-false}
use Rattle.std.specs.Prelude.{map, filter, Option, Some, None, option_map, nat_lt, slice_get, slice_index_or}
use Rattle.std.specs.List.{AllByRecursion, flat_map, range_with_len}
use Rattle.std.proofs.lemmas.List.{map-append}
use Rattle.std.proofs.lemmas.Simd.{map-map}
use Rattle.std.proofs.lemmas.List.Folds.{flat_map-map}
use Rattle.msi_query_rows.specs.Combinations.{IsCombination, combinations, combined, located, numbered_row}
use Rattle.msi_query.specs.Product.{product}
use Rattle.msi_base.proofs.BoolLemmas.{by_test}

pub filter_images : {X Y : Type 0} (p : Y → Bool) (f : X → Y) (xs : List X) → filter p (map f xs) ≡ map f (filter (λ x. p (f x)) xs)
filter_images p f [] = refl
filter_images p f (x ∷ xs) = by_test (p (f x)) (λ t. rw t (ap (λ l. f x ∷ l) (filter_images p f xs))) (λ t. rw t (filter_images p f xs))

map_flat_map : {X Y Z : Type 0} (g : Y → Z) (f : X → List Y) (xs : List X) → map g (flat_map f xs) ≡ flat_map (λ x. map g (f x)) xs
map_flat_map g f [] = refl
map_flat_map g f (x ∷ xs) = map-append g (f x) (flat_map f xs) ∙ ap (λ l. map g (f x) ++ l) (map_flat_map g f xs)

flat_map_same : {X Y : Type 0} (f g : X → List Y) (xs : List X) → ((x : X) → f x ≡ g x) → flat_map f xs ≡ flat_map g xs
flat_map_same f g xs e = λ i. flat_map (λ x. e x i) xs

each_row : {X Y : Type 0} (f : List X → Y) (rows : List (List X)) (k : ℕ) (g : ℕ → Y) → ((i : ℕ) → i < length rows → g (k + i) ≡ f (numbered_row rows i)) → map f rows ≡ map g (range_with_len k (length rows))
each_row f [] k g e = refl
each_row {X} {Y} f (r ∷ rs) k g e =
    let here : k + 0 ≡ k = omega arith in
    let first : f r ≡ g k = sym (e 0 (omega arith)) ∙ ap g here in
    let others : map f rs ≡ map g (range_with_len (k + 1) (length rs)) =
    each_row f rs (k + 1) g (λ i h. let same : k + 1 + i ≡ k + suc i = omega arith in ap g same ∙ e (suc i) (omega arith)) in
    ap (λ (y : Y). y ∷ map f rs) first ∙ ap (λ (l : List Y). g k ∷ l) others

-- the rows of a product, by their numbers
pub product_combined : {X Y : Type 0} (f : X → Y) (rels : List (List (List X)))
    → product (map (λ rows. map (map f) rows) rels) ≡ map (λ numbers. map f (combined rels numbers)) (combinations (map length rels))
product_combined f [] = refl
product_combined {X} {Y} f (rows ∷ rels) =
    ap (flat_map (λ (behind : List Y). map (λ row. row ++ behind) (map (map f) rows))) (product_combined f rels)
    ∙ flat_map-map (λ (behind : List Y). map (λ row. row ++ behind) (map (map f) rows)) (λ numbers. map f (combined rels numbers)) (combinations (map length rels))
    ∙ flat_map_same (λ numbers. map (λ row. row ++ map f (combined rels numbers)) (map (map f) rows))
    (λ numbers. map (λ more. map f (combined (rows ∷ rels) more)) (map (λ i. i ∷ numbers) (range_with_len 0 (length rows)))) (combinations (map length rels))
    (λ numbers. map-map (λ (row : List Y). row ++ map f (combined rels numbers)) (map f) rows
    ∙ each_row (λ row. map f row ++ map f (combined rels numbers)) rows 0 (λ i. map f (numbered_row rows i ++ combined rels numbers))
    (λ i h. let same : 0 + i ≡ i = omega arith in ap (λ k. map f (numbered_row rows k ++ combined rels numbers)) same ∙ map-append f (numbered_row rows i) (combined rels numbers))
    ∙ sym (map-map (λ more. map f (combined (rows ∷ rels) more)) (λ i. i ∷ numbers) (range_with_len 0 (length rows))))
    ∙ sym (map_flat_map (λ more. map f (combined (rows ∷ rels) more)) (λ (behind : List ℕ). map (λ i. i ∷ behind) (range_with_len 0 (length rows))) (combinations (map length rels)))

-- ---- one relation after the other

abbrev the_none : List ℕ
the_none = []

none_left : (i : ℕ) → drop i (the_none) ≡ the_none
none_left zero = refl
none_left (suc i) = refl

none_there : (i : ℕ) → slice_index_or the_none i 0 ≡ 0
none_there zero = refl
none_there (suc i) = refl

pub combined_next : {X : Type 0} (rels : List (List (List X))) (numbers : List ℕ) (i : ℕ) → i < length rels
    → combined (drop i rels) (drop i numbers) ≡ numbered_row (slice_index_or rels i []) (slice_index_or numbers i 0) ++ combined (drop (suc i) rels) (drop (suc i) numbers)
combined_next [] numbers i h = absurd (omega arith)
combined_next (rows ∷ rels) [] zero h = refl
combined_next (rows ∷ rels) (n ∷ ns) zero h = refl
combined_next (rows ∷ rels) [] (suc i) h = ap (λ ns. combined (drop i rels) ns) (sym (none_left i)) ∙ combined_next rels [] i (omega arith)
    ∙ ap (λ n. numbered_row (slice_index_or rels i []) n ++ combined (drop (suc i) rels) []) (none_there i)
combined_next (rows ∷ rels) (n ∷ ns) (suc i) h = combined_next rels ns i (omega arith)

-- ---- where a place of the product is

at_first : {X : Type 0} (row other : List X) (i : ℕ) → i < length row → slice_get (row ++ other) i ≡ slice_get row i
at_first [] other i h = absurd (omega arith)
at_first (x ∷ xs) other zero h = refl
at_first (x ∷ xs) other (suc i) h = at_first xs other i (omega arith)

at_second : {X : Type 0} (row other : List X) (i : ℕ) → length row ≤ i → slice_get (row ++ other) i ≡ slice_get other (i - length row)
at_second [] other i h = let e : i ≡ i - 0 = omega arith in ap (slice_get other) e
at_second (x ∷ xs) other zero h = absurd (omega arith)
at_second (x ∷ xs) other (suc i) h =
    let e : i - length xs ≡ suc i - suc (length xs) = omega arith in
    at_second xs other i (omega arith) ∙ ap (slice_get other) e

wide_row : {X : Type 0} (width : ℕ) (rows : List (List X)) (n : ℕ) → AllByRecursion (λ row. length row ≡ width) rows → n < length rows → length (numbered_row rows n) ≡ width
wide_row width [] n w h = absurd (omega arith)
wide_row width (r ∷ rs) zero w h = w.0
wide_row width (r ∷ rs) (suc n) w h = wide_row width rs n w.1 (omega arith)

image_of : {X Y : Type 0} (f : X → Y) (o : Option X) (y : Y) → option_map f o ≡ Some y → (x : X) × (o ≡ Some x) × (f x ≡ y)
image_of f None y e = cc
image_of f (Some x) y e = let same : f x ≡ y = cc in (x, refl, same)

module _ {R X : Type 0} (width_of : R → ℕ) (rows_of : R → List (List X)) where
  abbrev pub AreWide : List R → Type 0
  AreWide rels = AllByRecursion (λ r. AllByRecursion (λ row. length row ≡ width_of r) (rows_of r)) rels

  pub located_there : (rels : List R) (numbers : List ℕ) (place : ℕ) (at : ℕ × ℕ) → AreWide rels → IsCombination (map (λ r. length (rows_of r)) rels) numbers
      → located (map width_of rels) place ≡ Some at
      → slice_get (combined (map rows_of rels) numbers) place ≡ slice_get (numbered_row (slice_index_or (map rows_of rels) at.0 []) (slice_index_or numbers at.0 0)) at.1
  located_there [] numbers place at w h e = cc
  located_there (r ∷ rels) [] place at w h e = absurd h
  located_there (r ∷ rels) (n ∷ ns) place at w h e =
      let same : length (numbered_row (rows_of r) n) ≡ width_of r = wide_row (width_of r) (rows_of r) n w.0 h.0 in
      by_test (nat_lt place (width_of r))
      (λ t. let is : Some (0, place) ≡ Some at = rw t at e in
      let here : (0, place) ≡ at = cc in
      let below : place < width_of r = ltb-true place (width_of r) t in
      subst (λ (at : ℕ × ℕ). slice_get (combined (map rows_of (r ∷ rels)) (n ∷ ns)) place
      ≡ slice_get (numbered_row (slice_index_or (map rows_of (r ∷ rels)) at.0 []) (slice_index_or (n ∷ ns) at.0 0)) at.1) here
      (at_first (numbered_row (rows_of r) n) (combined (map rows_of rels) ns) place (omega (arith, same, below))))
      (λ t. let is : option_map (λ (at : ℕ × ℕ). (suc at.0, at.1)) (located (map width_of rels) (place - width_of r)) ≡ Some at = rw t at e in
      let g = image_of (λ (at : ℕ × ℕ). (suc at.0, at.1)) (located (map width_of rels) (place - width_of r)) at is in
      let beyond : width_of r ≤ place = ltb-false place (width_of r) t in
      subst (λ (at : ℕ × ℕ). slice_get (combined (map rows_of (r ∷ rels)) (n ∷ ns)) place
      ≡ slice_get (numbered_row (slice_index_or (map rows_of (r ∷ rels)) at.0 []) (slice_index_or (n ∷ ns) at.0 0)) at.1) g.2
      (at_second (numbered_row (rows_of r) n) (combined (map rows_of rels) ns) place (omega (arith, same, beyond))
      ∙ ap (λ w. slice_get (combined (map rows_of rels) ns) (place - w)) same
      ∙ located_there rels ns (place - width_of r) g.0 w.1 h.1 g.1))
