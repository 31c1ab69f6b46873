-- Combinations of numbers: their order, and those of which only some numbers are chosen.
use Rattle.std.proofs.Common.{◌≡◌, ℕ, zero, suc, ◌+◌, ◌<◌, inl, inr, Bool, true, false, cond, List, [], ◌∷◌, ◌++◌, length, get_or, refl, sym, ap, subst, ◌∙◌, arith, Ordering, eqb-true, ltb-true}
use Rattle.std.proofs.Math.ListN.{set, length-set}
use Rattle.std.specs.Prelude.{map, filter, reverse, nat_lt, replicate, ◌==◌, ◌&&◌}
use Rattle.std.specs.declared.cmp.Ordering.TheVariants.{Less, Equal, Greater}
use Rattle.std.specs.List.{AllByRecursion, flat_map, list_all, range_with_len}
use Rattle.std.specs.Ordering.{is_lt, nat_cmp, ordering_then, ordering_reverse}
use Rattle.std.specs.Cmp.{IsStrictWeakOrder, nat_cmp_is, tied_itself}
use Rattle.std.specs.Cmp.Lexicographic.{slice_cmp, nat_list_cmp_total}
use Rattle.std.proofs.lemmas.List.{length-reverse, reverse-reverse}
use Rattle.std.proofs.lemmas.Grind.{reverse_onto}
use Rattle.std.proofs.lemmas.List.MinMax.{ranks_by}
use Rattle.std.proofs.lemmas.Bool.{and_parts, lt-ltb}
use Rattle.std.proofs.lemmas.Map.Lookups.{exact_bytes}
use Rattle.msi_base.specs.Lists.{stable_sort}
use Rattle.msi_query_rows.specs.Combinations.{IsCombination, combination_cmp, combinations, if_whole, with_each}
use Rattle.msi_base.proofs.BoolLemmas.{by_test}
use Rattle.msi_base.proofs.ListLemmas.{In, all_at, all_from, all_kept, all_weaker, filter_all}
use Rattle.msi_table_cells.proofs.StableSortLemmas.{all_sorted}
use Rattle.msi_query_rows.proofs.ProductOrderLemmas.{IsOnce, Rises, in_filter, in_flat_map, in_map, in_numbers, in_sorted, of_filter, of_flat_map, of_map, of_numbers, of_sorted, once_filter, once_flat_map, once_map, rises_filter, rises_flat_map, rises_map, rises_sorted, same_members}

pub in_combinations : (counts numbers : List ℕ) → IsCombination counts numbers → In numbers (combinations counts)
in_combinations [] [] h = inl refl
in_combinations [] (i ∷ is) h = absurd h
in_combinations (n ∷ ns) [] h = absurd h
in_combinations (n ∷ ns) (i ∷ is) h =
    in_flat_map (λ (behind : List ℕ). map (λ (i : ℕ). i ∷ behind) (range_with_len 0 n)) is (i ∷ is) (combinations ns) (in_combinations ns is h.1)
    (in_map (λ (i : ℕ). i ∷ is) i (range_with_len 0 n) (in_numbers i 0 n (omega arith) (omega (arith, h.0))))

pub of_combinations : (counts numbers : List ℕ) → In numbers (combinations counts) → IsCombination counts numbers
of_combinations [] numbers (inl e) = subst (IsCombination []) e tt
of_combinations [] numbers (inr h) = absurd h
of_combinations (n ∷ ns) numbers h =
    let g = of_flat_map (λ (behind : List ℕ). map (λ (i : ℕ). i ∷ behind) (range_with_len 0 n)) numbers (combinations ns) h in
    let k = of_map (λ (i : ℕ). i ∷ g.0) numbers (range_with_len 0 n) g.2 in
    subst (IsCombination (n ∷ ns)) k.2 (omega (arith, (of_numbers k.0 0 n k.1).1), of_combinations ns g.0 g.1)

pub length-combination : (counts numbers : List ℕ) → IsCombination counts numbers → length numbers ≡ length counts
length-combination [] [] h = refl
length-combination [] (i ∷ is) h = absurd h
length-combination (n ∷ ns) [] h = absurd h
length-combination (n ∷ ns) (i ∷ is) h = ap suc (length-combination ns is h.1)

-- ---- their order

then_equal : (o : Ordering) → ordering_then o Equal ≡ o
then_equal Less = refl
then_equal Equal = refl
then_equal Greater = refl

then_then : (o p q : Ordering) → ordering_then o (ordering_then p q) ≡ ordering_then (ordering_then o p) q
then_then Less p q = refl
then_then Equal p q = refl
then_then Greater p q = refl

cmp_more : (xs ys : List ℕ) (i j : ℕ) → length xs ≡ length ys → slice_cmp nat_cmp (xs ++ i ∷ []) (ys ++ j ∷ []) ≡ ordering_then (slice_cmp nat_cmp xs ys) (nat_cmp i j)
cmp_more [] [] i j e = then_equal (nat_cmp i j)
cmp_more [] (y ∷ ys) i j e = absurd (omega arith)
cmp_more (x ∷ xs) [] i j e = absurd (omega arith)
cmp_more (x ∷ xs) (y ∷ ys) i j e = ap (ordering_then (nat_cmp x y)) (cmp_more xs ys i j (omega arith)) ∙ then_then (nat_cmp x y) (slice_cmp nat_cmp xs ys) (nat_cmp i j)

-- the first number counts last
pub cmp_first : (i j : ℕ) (xs ys : List ℕ) → length xs ≡ length ys → combination_cmp (i ∷ xs) (j ∷ ys) ≡ ordering_then (combination_cmp xs ys) (nat_cmp i j)
cmp_first i j xs ys e =
    ap (λ (l : List ℕ). slice_cmp nat_cmp l (reverse (j ∷ ys))) (reverse_onto xs i [])
    ∙ ap (slice_cmp nat_cmp (reverse xs ++ i ∷ [])) (reverse_onto ys j [])
    ∙ cmp_more (reverse xs) (reverse ys) i j (length-reverse xs ∙ e ∙ sym (length-reverse ys))

abbrev pub before : List ℕ → List ℕ → Bool
before one other = is_lt (combination_cmp one other)

pub combination_cmp-weak : IsStrictWeakOrder before
combination_cmp-weak = ranks_by nat_list_cmp_total reverse

not_before : (o : Ordering) → is_lt o ≡ false → is_lt (ordering_reverse o) ≡ false → o ≡ Equal
not_before Less h k = cc
not_before Equal h k = refl
not_before Greater h k = cc

pub combination_cmp-strict : (one other : List ℕ) → before one other ≡ false → before other one ≡ false → one ≡ other
combination_cmp-strict one other h k =
    let e : slice_cmp nat_cmp (reverse one) (reverse other) ≡ Equal = not_before (slice_cmp nat_cmp (reverse one) (reverse other)) h
    (ap is_lt (sym (nat_list_cmp_total.antisymm (reverse other) (reverse one))) ∙ k) in
    sym (reverse-reverse one) ∙ ap reverse (exact_bytes (reverse one) (reverse other) e) ∙ reverse-reverse other

less_of : (o : Ordering) → is_lt o ≡ true → o ≡ Less
less_of Less h = refl
less_of Equal h = cc
less_of Greater h = cc

nat_less : (i j : ℕ) → nat_lt i j ≡ true → nat_cmp i j ≡ Less
nat_less i j h = sym (nat_cmp_is i j Less (ltb-true i j h))

rises_numbers : (k n : ℕ) → Rises nat_lt (range_with_len k n)
rises_numbers k zero = tt
rises_numbers k (suc n) =
    (all_from (λ i. nat_lt k i ≡ true) (range_with_len (k + 1) n) (λ i h. let g = of_numbers i (k + 1) n h in lt-ltb k i (omega (arith, g.0))), rises_numbers (k + 1) n)

pub rises_combinations : (counts : List ℕ) → Rises before (combinations counts)
rises_combinations [] = (tt, tt)
rises_combinations (n ∷ ns) =
    rises_flat_map before before (λ (behind : List ℕ). map (λ (i : ℕ). i ∷ behind) (range_with_len 0 n)) (combinations ns) (rises_combinations ns)
    (λ behind h. rises_map nat_lt before (λ (i : ℕ). i ∷ behind) (range_with_len 0 n)
    (λ i j t. ap is_lt (cmp_first i j behind behind refl) ∙ ap (λ o. is_lt (ordering_then o (nat_cmp i j))) (tied_itself nat_list_cmp_total (reverse behind)) ∙ ap is_lt (nat_less i j t))
    (rises_numbers 0 n))
    (λ one other x y h k t p q.
    let g = of_map (λ (i : ℕ). i ∷ one) x (range_with_len 0 n) p in
    let m = of_map (λ (i : ℕ). i ∷ other) y (range_with_len 0 n) q in
    let same : length one ≡ length other = length-combination ns one (of_combinations ns one h) ∙ sym (length-combination ns other (of_combinations ns other k)) in
    subst (λ z. before z y ≡ true) g.2 (subst (λ z. before (g.0 ∷ one) z ≡ true) m.2
    (ap is_lt (cmp_first g.0 m.0 one other same) ∙ ap (λ o. is_lt (ordering_then o (nat_cmp g.0 m.0))) (less_of (combination_cmp one other) t))))

-- distinct combinations, sorted: those of all that are among them
pub sorted_combinations : (counts : List ℕ) (test : List ℕ → Bool) (found : List (List ℕ)) → IsOnce found → AllByRecursion (IsCombination counts) found
    → ((numbers : List ℕ) → IsCombination counts numbers → test numbers ≡ true → In numbers found)
    → filter test (stable_sort combination_cmp found) ≡ filter test (combinations counts)
sorted_combinations counts test found once inside complete =
    same_members before combination_cmp-weak (filter test (stable_sort combination_cmp found)) (filter test (combinations counts))
    (rises_filter before test (stable_sort combination_cmp found) (rises_sorted combination_cmp combination_cmp-weak combination_cmp-strict found once))
    (rises_filter before test (combinations counts) (rises_combinations counts))
    (λ numbers h. let g = of_filter test numbers (stable_sort combination_cmp found) h in
    in_filter test numbers (combinations counts) (in_combinations counts numbers (all_at (IsCombination counts) found numbers inside (of_sorted combination_cmp numbers found g.0))) g.1)
    (λ numbers h. let g = of_filter test numbers (combinations counts) h in
    in_filter test numbers (stable_sort combination_cmp found) (in_sorted combination_cmp numbers found (complete numbers (of_combinations counts numbers g.0) g.1)) g.1)

-- ---- combinations of which some numbers are chosen, and the others are 0

abbrev pub is_chosen_of : ℕ → Bool → ℕ → Type 0
is_chosen_of n true i = i < n
is_chosen_of n false i = i ≡ 0

abbrev pub IsChosenOf : List ℕ → List Bool → List ℕ → Type 0
IsChosenOf [] [] [] = Unit {0}
IsChosenOf [] [] (i ∷ is) = ⊥
IsChosenOf [] (j ∷ js) is = ⊥
IsChosenOf (n ∷ ns) [] is = ⊥
IsChosenOf (n ∷ ns) (j ∷ js) [] = ⊥
IsChosenOf (n ∷ ns) (j ∷ js) (i ∷ is) = is_chosen_of n j i × IsChosenOf ns js is

abbrev pub chosen : List Bool → List ℕ → List ℕ
chosen [] is = []
chosen (j ∷ js) [] = []
chosen (j ∷ js) (i ∷ is) = cond j i 0 ∷ chosen js is

pub one_more_chosen : (counts : List ℕ) (joined : List Bool) (numbers : List ℕ) (r i : ℕ) → IsChosenOf counts joined numbers → i < get_or counts r 0 → IsChosenOf counts (set joined r true) (set numbers r i)
one_more_chosen [] joined numbers r i f h = absurd (omega arith)
one_more_chosen (n ∷ ns) [] numbers r i f h = absurd f
one_more_chosen (n ∷ ns) (j ∷ js) [] r i f h = absurd f
one_more_chosen (n ∷ ns) (j ∷ js) (x ∷ xs) zero i f h = (h, f.1)
one_more_chosen (n ∷ ns) (j ∷ js) (x ∷ xs) (suc r) i f h = (f.0, one_more_chosen ns js xs r i f.1 h)

pub chosen_more : (joined : List Bool) (numbers : List ℕ) (r : ℕ) → chosen (set joined r true) numbers ≡ set (chosen joined numbers) r (get_or numbers r 0)
chosen_more [] numbers zero = refl
chosen_more [] numbers (suc r) = refl
chosen_more (j ∷ js) [] zero = refl
chosen_more (j ∷ js) [] (suc r) = refl
chosen_more (j ∷ js) (i ∷ is) zero = refl
chosen_more (j ∷ js) (i ∷ is) (suc r) = ap (λ (l : List ℕ). cond j i 0 ∷ l) (chosen_more js is r)

pub all_chosen : (joined : List Bool) (numbers : List ℕ) → length joined ≡ length numbers → AllByRecursion (λ j. j ≡ true) joined → chosen joined numbers ≡ numbers
all_chosen [] [] e a = refl
all_chosen [] (i ∷ is) e a = absurd (omega arith)
all_chosen (j ∷ js) [] e a = absurd (omega arith)
all_chosen (j ∷ js) (i ∷ is) e a = ap (λ b. cond b i 0 ∷ chosen js is) a.0 ∙ ap (λ (l : List ℕ). i ∷ l) (all_chosen js is (omega arith) a.1)

pub chosen_at : (joined : List Bool) (numbers : List ℕ) (s : ℕ) → get_or joined s false ≡ true → get_or (chosen joined numbers) s 0 ≡ get_or numbers s 0
chosen_at [] numbers s t = cc
chosen_at (j ∷ js) [] s t = refl
chosen_at (j ∷ js) (i ∷ is) zero t = ap (λ b. cond b i 0) t
chosen_at (j ∷ js) (i ∷ is) (suc s) t = chosen_at js is s t

pub chosen_whole : (counts : List ℕ) (joined : List Bool) (numbers : List ℕ) → AllByRecursion (λ j. j ≡ true) joined → IsChosenOf counts joined numbers → IsCombination counts numbers
chosen_whole [] [] [] a f = tt
chosen_whole [] [] (i ∷ is) a f = absurd f
chosen_whole [] (j ∷ js) numbers a f = absurd f
chosen_whole (n ∷ ns) [] numbers a f = absurd f
chosen_whole (n ∷ ns) (j ∷ js) [] a f = absurd f
chosen_whole (n ∷ ns) (j ∷ js) (i ∷ is) a f = (subst (λ b. is_chosen_of n b i) a.0 f.0, chosen_whole ns js is a.1 f.1)

pub none_chosen : (counts : List ℕ) → IsChosenOf counts (replicate (length counts) false) (replicate (length counts) 0)
none_chosen [] = tt
none_chosen (n ∷ ns) = (refl, none_chosen ns)

pub chosen_none : (numbers : List ℕ) → chosen (replicate (length numbers) false) numbers ≡ replicate (length numbers) 0
chosen_none [] = refl
chosen_none (i ∷ is) = ap (λ (l : List ℕ). 0 ∷ l) (chosen_none is)

-- a number that is chosen anew tells what was there before
taken_back : (counts : List ℕ) (joined : List Bool) (numbers : List ℕ) (r i : ℕ) → IsChosenOf counts joined numbers → get_or joined r true ≡ false → set (set numbers r i) r 0 ≡ numbers
taken_back [] [] [] r i f t = cc
taken_back [] [] (x ∷ xs) r i f t = absurd f
taken_back [] (j ∷ js) numbers r i f t = absurd f
taken_back (n ∷ ns) [] numbers r i f t = absurd f
taken_back (n ∷ ns) (j ∷ js) [] r i f t = absurd f
taken_back (n ∷ ns) (j ∷ js) (x ∷ xs) zero i f t = let e : x ≡ 0 = subst (λ b. is_chosen_of n b x) t f.0 in ap (λ (y : ℕ). y ∷ xs) (sym e)
taken_back (n ∷ ns) (j ∷ js) (x ∷ xs) (suc r) i f t = ap (λ (l : List ℕ). x ∷ l) (taken_back ns js xs r i f.1 t)

number_set : (counts : List ℕ) (joined : List Bool) (numbers : List ℕ) (r i : ℕ) → IsChosenOf counts joined numbers → get_or joined r true ≡ false → get_or (set numbers r i) r 0 ≡ i
number_set [] [] [] r i f t = cc
number_set [] [] (x ∷ xs) r i f t = absurd f
number_set [] (j ∷ js) numbers r i f t = absurd f
number_set (n ∷ ns) [] numbers r i f t = absurd f
number_set (n ∷ ns) (j ∷ js) [] r i f t = absurd f
number_set (n ∷ ns) (j ∷ js) (x ∷ xs) zero i f t = refl
number_set (n ∷ ns) (j ∷ js) (x ∷ xs) (suc r) i f t = number_set ns js xs r i f.1 t

-- a step: each combination with each of the numbers of one more relation that are picked for it, of which those are kept that pass a test
module _ (counts : List ℕ) (joined : List Bool) (r : ℕ) (pick : List ℕ → List ℕ) (keeps : List ℕ → Bool) (found : List (List ℕ))
    (inside : (numbers : List ℕ) (i : ℕ) → In i (pick numbers) → i < get_or counts r 0) (once : (numbers : List ℕ) → IsOnce (pick numbers)) where
  abbrev more_for : List ℕ → List (List ℕ)
  more_for numbers = with_each keeps r (pick numbers) numbers

  more_of : (more numbers : List ℕ) → In more (more_for numbers) → (i : ℕ) × In i (pick numbers) × (set numbers r i ≡ more)
  more_of more numbers h = of_map (λ i. set numbers r i) more (pick numbers) (of_filter keeps more (map (λ i. set numbers r i) (pick numbers)) h).0

  step_chosen : AllByRecursion (IsChosenOf counts joined) found → AllByRecursion (IsChosenOf counts (set joined r true)) (flat_map more_for found)
  step_chosen f = all_from (IsChosenOf counts (set joined r true)) (flat_map more_for found) (λ numbers h.
      let g = of_flat_map more_for numbers found h in
      let k = more_of numbers g.0 g.2 in
      subst (IsChosenOf counts (set joined r true)) k.2 (one_more_chosen counts joined g.0 r k.0 (all_at (IsChosenOf counts joined) found g.0 f g.1) (inside g.0 k.0 k.1)))

  step_once : AllByRecursion (IsChosenOf counts joined) found → get_or joined r true ≡ false → IsOnce found → IsOnce (flat_map more_for found)
  step_once f t a = once_flat_map more_for (λ numbers. set numbers r 0) found
      (λ numbers more h k. let g = more_of more numbers k in
      ap (λ (l : List ℕ). set l r 0) (sym g.2) ∙ taken_back counts joined numbers r g.0 (all_at (IsChosenOf counts joined) found numbers f h) t)
      (λ numbers h. once_filter keeps (map (λ i. set numbers r i) (pick numbers)) (once_map (λ i. set numbers r i) (λ more. get_or more r 0) (pick numbers)
      (λ i k. number_set counts joined numbers r i (all_at (IsChosenOf counts joined) found numbers f h) t) (once numbers)))
      a

  step_found : (numbers : List ℕ) → In (chosen joined numbers) found → In (get_or numbers r 0) (pick (chosen joined numbers)) → keeps (chosen (set joined r true) numbers) ≡ true
      → In (chosen (set joined r true) numbers) (flat_map more_for found)
  step_found numbers h k t =
      let e : chosen (set joined r true) numbers ≡ set (chosen joined numbers) r (get_or numbers r 0) = chosen_more joined numbers r in
      in_flat_map more_for (chosen joined numbers) (chosen (set joined r true) numbers) found h
      (in_filter keeps (chosen (set joined r true) numbers) (map (λ i. set (chosen joined numbers) r i) (pick (chosen joined numbers)))
      (subst (λ (l : List ℕ). In l (map (λ i. set (chosen joined numbers) r i) (pick (chosen joined numbers)))) (sym e)
      (in_map (λ i. set (chosen joined numbers) r i) (get_or numbers r 0) (pick (chosen joined numbers)) k)) t)

  step_kept : AllByRecursion (λ numbers. keeps numbers ≡ true) (flat_map more_for found)
  step_kept = all_from (λ numbers. keeps numbers ≡ true) (flat_map more_for found) (λ numbers h.
      let g = of_flat_map more_for numbers found h in (of_filter keeps numbers (map (λ i. set g.0 r i) (pick g.0)) g.2).1)

-- what is found when some relations are joined: combinations of rows of these, no one twice, that pass the test if they are whole; and the part of each that passes the test and is linked
pub record IsFound (counts : List ℕ) (linked : List ℕ → Type 0) (test : List ℕ → Bool) (joined : List Bool) (found : List (List ℕ)) : Type 0 where
  pub parts : AllByRecursion (IsChosenOf counts joined) found
  pub once : IsOnce found
  pub kept : AllByRecursion (λ numbers. if_whole (list_all (λ j. j) joined) test numbers ≡ true) found
  pub complete : (numbers : List ℕ) → IsCombination counts numbers → linked numbers → test numbers ≡ true → In (chosen joined numbers) found

if_whole_passes : (w : Bool) (test : List ℕ → Bool) (numbers : List ℕ) → (w ≡ true → test numbers ≡ true) → if_whole w test numbers ≡ true
if_whole_passes true test numbers h = h refl
if_whole_passes false test numbers h = refl

all_of : (joined : List Bool) → list_all (λ j. j) joined ≡ true → AllByRecursion (λ j. j ≡ true) joined
all_of [] t = tt
all_of (j ∷ js) t = let g = and_parts j (list_all (λ j. j) js) t in (g.0, all_of js g.1)

length-chosen : (counts : List ℕ) (joined : List Bool) → length joined ≡ length counts → (numbers : List ℕ) → IsCombination counts numbers → length joined ≡ length numbers
length-chosen counts joined e numbers h = e ∙ sym (length-combination counts numbers h)

pub found_more : (counts : List ℕ) (linked : List ℕ → Type 0) (test : List ℕ → Bool) (joined : List Bool) (r : ℕ) (pick : List ℕ → List ℕ) (found : List (List ℕ))
    → length joined ≡ length counts → get_or joined r true ≡ false
    → ((numbers : List ℕ) (i : ℕ) → In i (pick numbers) → i < get_or counts r 0) → ((numbers : List ℕ) → IsOnce (pick numbers))
    → ((numbers : List ℕ) → IsCombination counts numbers → linked numbers → In (get_or numbers r 0) (pick (chosen joined numbers)))
    → IsFound counts linked test joined found
    → IsFound counts linked test (set joined r true) (flat_map (λ numbers. with_each (if_whole (list_all (λ j. j) (set joined r true)) test) r (pick numbers) numbers) found)
found_more counts linked test joined r pick found same t inside once picked f = record {
  parts = step_chosen counts joined r pick keeps found inside once f.parts;
  once = step_once counts joined r pick keeps found inside once f.parts t f.once;
  kept = step_kept counts joined r pick keeps found inside once;
  complete = λ numbers c l p. step_found counts joined r pick keeps found inside once numbers (f.complete numbers c l p) (picked numbers c l)
      (if_whole_passes (list_all (λ j. j) (set joined r true)) test (chosen (set joined r true) numbers)
      (λ a. ap test (all_chosen (set joined r true) numbers (length-set joined r true ∙ length-chosen counts joined same numbers c) (all_of (set joined r true) a)) ∙ p));
}
  where
    keeps : List ℕ → Bool
    keeps = if_whole (list_all (λ j. j) (set joined r true)) test

not_zero : (n : ℕ) → (suc n == 0) ≡ false
not_zero n = by_test (suc n == 0) (λ t. let e : suc n ≡ 0 = eqb-true (suc n) 0 t in absurd (omega (arith, e))) (λ t. t)

first_kept : (counts : List ℕ) (test : List ℕ → Bool) (numbers : List ℕ) → IsCombination counts numbers → test numbers ≡ true
    → if_whole (length counts == 0) test (replicate (length counts) 0) ≡ true
first_kept [] test [] c p = p
first_kept [] test (i ∷ is) c p = absurd c
first_kept (n ∷ ns) test numbers c p = ap (λ w. if_whole w test (replicate (suc (length ns)) 0)) (not_zero (length ns))

none_joined : (counts : List ℕ) → (length counts == 0) ≡ list_all (λ j. j) (replicate (length counts) false)
none_joined [] = refl
none_joined (n ∷ ns) = not_zero (length ns)

pub found_first : (counts : List ℕ) (linked : List ℕ → Type 0) (test : List ℕ → Bool)
    → IsFound counts linked test (replicate (length counts) false) (filter (if_whole (length counts == 0) test) (replicate (length counts) 0 ∷ []))
found_first counts linked test = record {
  parts = all_kept (IsChosenOf counts (replicate (length counts) false)) keeps (zeros ∷ []) (none_chosen counts, tt);
  once = once_filter keeps (zeros ∷ []) ((λ h. h), tt);
  kept = all_from (λ numbers. if_whole (list_all (λ j. j) (replicate (length counts) false)) test numbers ≡ true) (filter keeps (zeros ∷ []))
      (λ numbers h. ap (λ w. if_whole w test numbers) (sym (none_joined counts)) ∙ (of_filter keeps numbers (zeros ∷ []) h).1);
  complete = λ numbers c l p. in_filter keeps (chosen (replicate (length counts) false) numbers) (zeros ∷ [])
      (inl (sym (ap (λ n. chosen (replicate n false) numbers) (sym (length-combination counts numbers c)) ∙ chosen_none numbers ∙ ap (λ n. replicate n 0) (length-combination counts numbers c))))
      (ap keeps (ap (λ n. chosen (replicate n false) numbers) (sym (length-combination counts numbers c)) ∙ chosen_none numbers ∙ ap (λ n. replicate n 0) (length-combination counts numbers c))
      ∙ first_kept counts test numbers c p);
}
  where
    zeros : List ℕ
    zeros = replicate (length counts) 0

    keeps : List ℕ → Bool
    keeps = if_whole (length counts == 0) test

-- once all are joined, what was found is sorted into the combinations that pass the test
pub found_all : (counts : List ℕ) (linked : List ℕ → Type 0) (test : List ℕ → Bool) (joined : List Bool) (found : List (List ℕ)) → length joined ≡ length counts → AllByRecursion (λ j. j ≡ true) joined
    → ((numbers : List ℕ) → IsCombination counts numbers → test numbers ≡ true → linked numbers)
    → IsFound counts linked test joined found → stable_sort combination_cmp found ≡ filter test (combinations counts)
found_all counts linked test joined found same whole implied f =
    sym (filter_all test (stable_sort combination_cmp found) (all_sorted combination_cmp combination_cmp-weak (λ numbers. test numbers ≡ true) found
    (all_weaker (λ numbers. if_whole (list_all (λ j. j) joined) test numbers ≡ true) (λ numbers. test numbers ≡ true) found (λ numbers k. ap (λ w. if_whole w test numbers) (sym (all_true joined whole)) ∙ k) f.kept)))
    ∙ sorted_combinations counts test found f.once (all_weaker (IsChosenOf counts joined) (IsCombination counts) found (λ numbers k. chosen_whole counts joined numbers whole k) f.parts)
    (λ numbers c p. subst (λ (l : List ℕ). In l found) (all_chosen joined numbers (length-chosen counts joined same numbers c) whole) (f.complete numbers c (implied numbers c p) p))
  where
    all_true : (js : List Bool) → AllByRecursion (λ j. j ≡ true) js → list_all (λ j. j) js ≡ true
    all_true [] a = refl
    all_true (j ∷ js) a = ap (λ b. b && list_all (λ j. j) js) a.0 ∙ all_true js a.1
