-- One more relation of a product: which one, and the numbers of its rows.
use Rattle.std.proofs.Common.{◌≡◌, ℕ, zero, suc, ◌<◌, ◌≤◌, Bool, true, false, not, cond, List, [], ◌∷◌, length, get_or, refl, sym, ap, ◌∙◌, arith, ltb-false}
use Rattle.std.specs.Prelude.{map, filter, Some, None, nat_lt, slice_index_or}
use Rattle.std.specs.List.{AllByRecursion, position, position_or_len, range_with_len}
use Rattle.std.proofs.Math.ListN.{set, get_or-map}
use Rattle.std.proofs.lemmas.List.{length-map}
use Rattle.std.proofs.lemmas.List.Quantifiers.{position-Some}
use Rattle.msi_query_rows.specs.Combinations.{IsCombination, numbered_row}
use Rattle.msi_base.proofs.BoolLemmas.{by_test}
use Rattle.msi_base.proofs.ListLemmas.{In}
use Rattle.msi_query_rows.proofs.ProductOrderLemmas.{IsOnce, in_filter, in_numbers, of_filter, of_numbers, once_filter, once_numbers}
use Rattle.msi_query_rows.proofs.CombinationLemmas.{chosen, chosen_at}

-- how many are left
abbrev pub count_left : List Bool → ℕ
count_left [] = 0
count_left (true ∷ js) = count_left js
count_left (false ∷ js) = suc (count_left js)

pub not_false : (b : Bool) → not b ≡ true → b ≡ false
not_false true e = cc
not_false false e = refl

pub left_within : (joined : List Bool) (r : ℕ) → get_or joined r true ≡ false → r < length joined
left_within [] zero t = cc
left_within [] (suc r) t = cc
left_within (j ∷ js) zero t = omega arith
left_within (j ∷ js) (suc r) t = omega (arith, left_within js r t)

pub one_less_left : (joined : List Bool) (r : ℕ) → get_or joined r true ≡ false → count_left (set joined r true) < count_left joined
one_less_left [] zero t = cc
one_less_left [] (suc r) t = cc
one_less_left (true ∷ js) zero t = cc
one_less_left (false ∷ js) zero t = omega arith
one_less_left (true ∷ js) (suc r) t = one_less_left js r t
one_less_left (false ∷ js) (suc r) t = omega (arith, one_less_left js r t)

pub first_is_left : (joined : List Bool) (r : ℕ) → position not joined ≡ Some r → get_or joined r true ≡ false
first_is_left joined r e = not_false (get_or joined r true) (position-Some not joined r true e).1

none_of : (joined : List Bool) → length joined ≤ position_or_len not joined → AllByRecursion (λ j. j ≡ true) joined
none_of [] h = tt
none_of (true ∷ js) h = (refl, none_of js (omega (arith, h)))
none_of (false ∷ js) h = absurd (omega (arith, h))

pub none_is_left : (joined : List Bool) → position not joined ≡ None → AllByRecursion (λ j. j ≡ true) joined
none_is_left joined e = by_test (nat_lt (position_or_len not joined) (length joined))
    (λ t. let same : Some (position_or_len not joined) ≡ None = ap (λ b. cond b (Some (position_or_len not joined)) None) (sym t) ∙ e in cc)
    (λ t. none_of joined (ltb-false (position_or_len not joined) (length joined) t))

below_count : (counts numbers : List ℕ) (r : ℕ) → IsCombination counts numbers → r < length counts → get_or numbers r 0 < get_or counts r 0
below_count [] numbers r c h = absurd (omega arith)
below_count (n ∷ ns) [] r c h = absurd c
below_count (n ∷ ns) (i ∷ is) zero c h = c.0
below_count (n ∷ ns) (i ∷ is) (suc r) c h = below_count ns is r c.1 (omega arith)

module _ {X V : Type 0} (same : V → V → Bool) (value : ℕ → List X → V) (rows : List (List (List X))) where
  abbrev all_of : ℕ → List ℕ
  all_of r = range_with_len 0 (length (slice_index_or rows r []))

  abbrev value_of : List ℕ → ℕ → ℕ → V
  value_of numbers relation column = value column (numbered_row (slice_index_or rows relation []) (slice_index_or numbers relation 0))

  abbrev matching : ℕ → ℕ → V → List ℕ
  matching r column v = filter (λ i. same (value column (numbered_row (slice_index_or rows r []) i)) v) (all_of r)

  count_at : (r : ℕ) → get_or (map length rows) r 0 ≡ length (slice_index_or rows r [])
  count_at r = get_or-map length rows r []

  pub all_inside : (r i : ℕ) → In i (all_of r) → i < get_or (map length rows) r 0
  all_inside r i h = omega (arith, (of_numbers i 0 (length (slice_index_or rows r [])) h).1, count_at r)

  pub all_once : (r : ℕ) → IsOnce (all_of r)
  all_once r = once_numbers 0 (length (slice_index_or rows r []))

  pub in_all : (r : ℕ) (numbers : List ℕ) → IsCombination (map length rows) numbers → r < length rows → In (get_or numbers r 0) (all_of r)
  in_all r numbers c h =
      let within : length (map length rows) ≡ length rows = length-map rows length in
      in_numbers (get_or numbers r 0) 0 (length (slice_index_or rows r [])) (omega arith)
      (omega (arith, below_count (map length rows) numbers r c (omega (arith, h, within)), count_at r))

  pub matching_inside : (r column : ℕ) (v : V) (i : ℕ) → In i (matching r column v) → i < get_or (map length rows) r 0
  matching_inside r column v i h = all_inside r i (of_filter (λ i. same (value column (numbered_row (slice_index_or rows r []) i)) v) i (all_of r) h).0

  pub matching_once : (r column : ℕ) (v : V) → IsOnce (matching r column v)
  matching_once r column v = once_filter (λ i. same (value column (numbered_row (slice_index_or rows r []) i)) v) (all_of r) (all_once r)

  pub in_matching : (joined : List Bool) (numbers : List ℕ) (to to_column from from_column : ℕ) → IsCombination (map length rows) numbers → to < length rows → get_or joined from false ≡ true
      → same (value_of numbers to to_column) (value_of numbers from from_column) ≡ true → In (get_or numbers to 0) (matching to to_column (value_of (chosen joined numbers) from from_column))
  in_matching joined numbers to to_column from from_column c h t e =
      in_filter (λ i. same (value to_column (numbered_row (slice_index_or rows to []) i)) (value_of (chosen joined numbers) from from_column)) (get_or numbers to 0) (all_of to) (in_all to numbers c h)
      (ap (λ n. same (value_of numbers to to_column) (value from_column (numbered_row (slice_index_or rows from []) n))) (chosen_at joined numbers from t) ∙ e)
