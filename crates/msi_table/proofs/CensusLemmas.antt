-- A census: what counting a cell does, that cells add up, and that columns in turn count what rows in turn count.
use Rattle.std.proofs.Common.{◌≡◌, ◌≢◌, ℕ, zero, suc, ◌+◌, ◌*◌, ◌<◌, ◌≤◌, Bool, true, false, cond, ◌&&◌, ◌||◌, ◌==◌, List, [], ◌∷◌, ◌++◌, map, length, take, drop, set, get_or, Option, Some, None, is_some, unwrap_or, pos, ◌-ℤ◌, ◌^◌, refl, sym, ap, subst, ◌∙◌, arith, ⊎_elim, append-nil, append_assoc, get_or-set_same, get_or-set_other}
use Rattle.std.specs.Prelude.{count_by, min, nat_le, nat_lt, not, replicate, slice_index, slice_index_or, sum}
use Rattle.std.specs.List.{filter_map, list_all, list_any}
use Rattle.std.proofs.Math.Nat as nat
use Rattle.std.proofs.lemmas.Bool.{cases_eq, cases_lt, eq-eqb, false_from_ne_true, le-leb, leb-true, lt-ltb, ne_eqb, true≢false}
use Rattle.std.proofs.lemmas.Bool.Decides.{nat_tests}
use Rattle.std.proofs.lemmas.List.{length-set, length-replicate, get_or-replicate, take_more}
use Rattle.std.proofs.lemmas.Grind.{flat_map-append}
use Rattle.std.specs.List.{cons_option}
use Rattle.msi_pool.specs.References.{number_of}
use Rattle.msi_table_values.proofs.ColumnTypesLemmas.{below_types, length-types_of, type_at}
use Rattle.std.proofs.lemmas.List.Sums.{sum_by-append, sum_by-cons}
use Rattle.std.proofs.lemmas.List.Folds.{list_all-append, list_all-map}
use Rattle.std.proofs.lemmas.List.Elements.{filter_map-append}
use Rattle.msi_base.specs.Lists.{numbers_from, tabulated}
use Rattle.msi_base.proofs.ListLemmas.{each_number}
use Rattle.msi_table_values.specs.declared.column.ColumnType.{ColumnType}
use Rattle.msi_table_values.specs.declared.column.ColumnType.TheVariants as coltype
use Rattle.msi_table_cells.specs.declared.cell.ValueRef.{ValueRef}
use Rattle.msi_table_cells.specs.declared.cell.ValueRef.TheVariants as cell
use Rattle.msi_table_values.specs.Columns.{ColumnDef, types_of}
use Rattle.msi_table.specs.Cells.{width, widths, row_count, cell_in, cell_of_number, cell_at, is_for_texts, row_in, rows_in}
use Rattle.msi_table.specs.Census.{CensusDef, CountsMore, IsCensus, most_counted, number_of_cell, numbers_of_row, numbers_of_rows, times_named}
use Rattle.msi_table.proofs.PlacesLemmas.{cell_read, column_inside, tabulated_more}

-- HOW OFTEN A TEST IS PASSED

count-append : (p : ℕ → Bool) (xs ys : List ℕ) → count_by p (xs ++ ys) ≡ count_by p xs + count_by p ys
count-append p xs ys = sum_by-append (λ x. cond (p x) 1 0) xs ys

count_one : (p : ℕ → Bool) (x : ℕ) (b : Bool) → p x ≡ b → count_by p (x ∷ []) ≡ cond b 1 0
count_one p x b e = sum_by-cons (λ x. cond (p x) 1 0) x [] ∙ ap (λ b. cond b 1 0 + 0) e ∙ (let z : cond b 1 0 + 0 ≡ cond b 1 0 = omega arith in z)

-- all pass where none fails
all_by_count : (p : ℕ → Bool) (xs : List ℕ) → list_all p xs ≡ (count_by (λ x. not (p x)) xs == 0)
all_by_count p [] = refl
all_by_count p (x ∷ xs) = by_first (p x) (list_all p xs) (count_by (λ x. not (p x)) xs) (all_by_count p xs)
    ∙ ap (λ n. n == 0) (sym (sum_by-cons (λ x. cond (not (p x)) 1 0) x xs)) where
      by_first : (b rest : Bool) (n : ℕ) → rest ≡ (n == 0) → (b && rest) ≡ (cond (not b) 1 0 + n == 0)
      by_first true rest n e = e ∙ (let z : n ≡ 0 + n = omega arith in ap (λ m. m == 0) z)
      by_first false rest n e = sym (ne_eqb (1 + n) 0 (λ z. omega (arith, z)))

all_same : (p : ℕ → Bool) (xs ys : List ℕ) → ((q : ℕ → Bool) → count_by q xs ≡ count_by q ys) → list_all p xs ≡ list_all p ys
all_same p xs ys same = all_by_count p xs ∙ ap (λ n. n == 0) (same (λ x. not (p x))) ∙ sym (all_by_count p ys)

-- WHETHER NO PLACE HAS MORE CELLS THAN ARE COUNTED

abbrev pub few : List ℕ → ℕ → Bool
few numbers i = nat_le (times_named numbers i) most_counted

pub fits_by : (many : ℕ) (numbers : List ℕ) → list_all (λ n. nat_le n most_counted) (tabulated many (times_named numbers)) ≡ list_all (few numbers) (numbers_from 0 many)
fits_by many numbers = list_all-map (λ n. nat_le n most_counted) (times_named numbers) (numbers_from 0 many)

-- tests that agree
same_below : (p q : ℕ → Bool) (n i : ℕ) → ((j : ℕ) → i ≤ j → j < i + n → p j ≡ q j) → list_all p (numbers_from i n) ≡ list_all q (numbers_from i n)
same_below p q zero i h = refl
same_below p q (suc n) i h = λ k. h i (omega arith) (omega arith) k && same_below p q n (i + 1) (λ j l m. h j (omega (arith, l)) (omega (arith, m))) k

all_pass : (i n : ℕ) → list_all (λ j. true) (numbers_from i n) ≡ true
all_pass i zero = refl
all_pass i (suc n) = all_pass (i + 1) n

-- one that fails at a number
one_fails : (p : ℕ → Bool) (n k : ℕ) → k < n → p k ≡ false → list_all p (numbers_from 0 n) ≡ false
one_fails p n k h fails = false_from_ne_true (list_all p (numbers_from 0 n)) (λ all. true≢false (sym (each_number p 0 n all k (omega arith) (omega (arith, h))) ∙ fails))

-- cells that name no other place leave the rest as it was
fits_same : (many : ℕ) (before after : List ℕ) → ((i : ℕ) → i < many → few after i ≡ few before i)
    → list_all (λ n. nat_le n most_counted) (tabulated many (times_named before)) ≡ list_all (λ n. nat_le n most_counted) (tabulated many (times_named after))
fits_same many before after same = fits_by many before ∙ sym (fits_by many after ∙ same_below (few after) (few before) many 0 (λ i low high. same i (omega (arith, high))))

-- CELLS ADD UP

pub census_new : (many : ℕ) (c : CensusDef) → c.counts ≡ replicate many 0 → c.is_within ≡ true → c.fits ≡ true → IsCensus many [] c
census_new many c counts within fits = record {
  many_counts = ap length counts ∙ length-replicate many 0;
  counts = λ i h. ap (λ l. get_or l i 0) counts ∙ get_or-replicate many i 0 0 h;
  within = within;
  fits = fits ∙ sym (fits_by many [] ∙ same_below (few []) (λ i. true) many 0 (λ i low high. le-leb 0 most_counted (omega arith)) ∙ all_pass 0 many);
}

pub nothing_more : (c : CensusDef) → CountsMore [] c c
nothing_more c many earlier is = subst (λ l. IsCensus many l c) (sym (append-nil earlier)) is

pub more_then : (ms ns : List ℕ) (a b c : CensusDef) → CountsMore ms a b → CountsMore ns b c → CountsMore (ms ++ ns) a c
more_then ms ns a b c first then many earlier is = subst (λ l. IsCensus many l c) (append_assoc earlier ms ns) (then many (earlier ++ ms) (first many earlier is))

-- the same numbers in another order
pub reordered : (ms ns : List ℕ) (a b : CensusDef) → ((q : ℕ → Bool) → count_by q ms ≡ count_by q ns) → CountsMore ms a b → CountsMore ns a b
reordered ms ns a b same more many earlier is =
    let now : IsCensus many (earlier ++ ms) b = more many earlier is in
    record {
      many_counts = now.many_counts;
      counts = λ i h. now.counts i h ∙ ap (λ n. min n most_counted)
          (count-append (λ n. n == i + 1) earlier ms ∙ ap (λ n. count_by (λ n. n == i + 1) earlier + n) (same (λ n. n == i + 1)) ∙ sym (count-append (λ n. n == i + 1) earlier ns));
      within = now.within ∙ list_all-append (λ n. nat_le n many) earlier ms ∙ ap (λ b. list_all (λ n. nat_le n many) earlier && b) (all_same (λ n. nat_le n many) ms ns same)
          ∙ sym (list_all-append (λ n. nat_le n many) earlier ns);
      fits = now.fits ∙ fits_by many (earlier ++ ms)
          ∙ same_below (few (earlier ++ ms)) (few (earlier ++ ns)) many 0 (λ i low high. ap (λ n. nat_le n most_counted)
          (count-append (λ n. n == i + 1) earlier ms ∙ ap (λ n. count_by (λ n. n == i + 1) earlier + n) (same (λ n. n == i + 1)) ∙ sym (count-append (λ n. n == i + 1) earlier ns)))
          ∙ sym (fits_by many (earlier ++ ns));
    }

-- ONE CELL

-- one cell more than these is still counted
one_up : (n counted : ℕ) → counted ≡ min n most_counted → counted < most_counted → (n < most_counted) × (counted + 1 ≡ min (n + 1) most_counted)
one_up n counted is below = ⊎_elim
    (λ (h : n < most_counted). (h, omega (arith, is, nat.min-eq_left {n = n} {m = most_counted} (omega (arith, h)), nat.min-eq_left {n = n + 1} {m = most_counted} (omega (arith, h)))))
    (λ (h : most_counted ≤ n). absurd (omega (arith, is, below, nat.min-eq_right {n = most_counted} {m = n} h)))
    (cases_lt n most_counted)

-- and one more than the most isn't
most_up : (n counted : ℕ) → counted ≡ min n most_counted → most_counted ≤ counted → (most_counted < n + 1) × (counted ≡ min (n + 1) most_counted)
most_up n counted is full =
    let many : most_counted ≤ n = omega (arith, is, full, nat.min-le_left n most_counted) in
    (omega (arith, many), is ∙ nat.min-eq_right {n = most_counted} {m = n} many ∙ sym (nat.min-eq_right {n = most_counted} {m = n + 1} (omega (arith, many))))

more_than : (n most : ℕ) → most < n → nat_le n most ≡ false
more_than n most h = grind (arith, nat_tests)

-- a number that isn't this place's adds nothing to it
other_place : (earlier : List ℕ) (n i : ℕ) → n ≢ i + 1 → count_by (λ n. n == i + 1) (earlier ++ n ∷ []) ≡ count_by (λ n. n == i + 1) earlier
other_place earlier n i apart = count-append (λ n. n == i + 1) earlier (n ∷ []) ∙ ap (λ m. count_by (λ n. n == i + 1) earlier + m) (count_one (λ n. n == i + 1) n false (ne_eqb n (i + 1) apart))
    ∙ (let z : count_by (λ n. n == i + 1) earlier + 0 ≡ count_by (λ n. n == i + 1) earlier = omega arith in z)

this_place : (earlier : List ℕ) (n i : ℕ) → n ≡ i + 1 → count_by (λ n. n == i + 1) (earlier ++ n ∷ []) ≡ count_by (λ n. n == i + 1) earlier + 1
this_place earlier n i same = count-append (λ n. n == i + 1) earlier (n ∷ []) ∙ ap (λ m. count_by (λ n. n == i + 1) earlier + m) (count_one (λ n. n == i + 1) n true (eq-eqb n (i + 1) same))

within_more : (many n : ℕ) (earlier : List ℕ) (b : Bool) → nat_le n many ≡ b → list_all (λ n. nat_le n many) (earlier ++ n ∷ []) ≡ (list_all (λ n. nat_le n many) earlier && b)
within_more many n earlier b e = list_all-append (λ n. nat_le n many) earlier (n ∷ []) ∙ ap (λ b. list_all (λ n. nat_le n many) earlier && b) (last (nat_le n many) ∙ e) where
  last : (b : Bool) → (b && true) ≡ b
  last true = refl
  last false = refl

and_true : (b : Bool) → b ≡ (b && true)
and_true true = refl
and_true false = refl

and_false : (b : Bool) → false ≡ (b && false)
and_false true = refl
and_false false = refl

-- no place has the number 0
pub zero_counted : (c : CensusDef) → CountsMore (0 ∷ []) c c
zero_counted c many earlier is = record {
  many_counts = is.many_counts;
  counts = λ i h. is.counts i h ∙ ap (λ n. min n most_counted) (sym (other_place earlier 0 i (λ e. omega (arith, e))));
  within = is.within ∙ and_true (list_all (λ n. nat_le n many) earlier) ∙ sym (within_more many 0 earlier true (le-leb 0 many (omega arith)));
  fits = is.fits ∙ fits_same many earlier (earlier ++ 0 ∷ []) (λ i h. ap (λ n. nat_le n most_counted) (other_place earlier 0 i (λ e. omega (arith, e))));
}

pub place_counted : (before after : CensusDef) (k : ℕ) → k < length before.counts → get_or before.counts k 0 < most_counted → after.counts ≡ set before.counts k (get_or before.counts k 0 + 1)
    → after.is_within ≡ before.is_within → after.fits ≡ before.fits → CountsMore (suc k ∷ []) before after
place_counted before after k inside short counts within fits many earlier is =
    let below : k < many = omega (arith, inside, is.many_counts) in
    let up = one_up (times_named earlier k) (get_or before.counts k 0) (is.counts k below) short in
    record {
      many_counts = ap length counts ∙ length-set before.counts k (get_or before.counts k 0 + 1) ∙ is.many_counts;
      counts = λ i h. ⊎_elim
          (λ (same : i ≡ k). subst (λ i. get_or after.counts i 0 ≡ min (times_named (earlier ++ suc k ∷ []) i) most_counted) (sym same)
          (ap (λ l. get_or l k 0) counts ∙ get_or-set_same before.counts k (get_or before.counts k 0 + 1) 0 inside ∙ up.1
          ∙ ap (λ n. min n most_counted) (sym (this_place earlier (suc k) k (omega arith)))))
          (λ (apart : i ≢ k). ap (λ l. get_or l i 0) counts ∙ get_or-set_other before.counts k i (get_or before.counts k 0 + 1) 0 apart
          ∙ is.counts i h ∙ ap (λ n. min n most_counted) (sym (other_place earlier (suc k) i (λ e. apart (omega (arith, e))))))
          (cases_eq i k);
      within = within ∙ is.within ∙ and_true (list_all (λ n. nat_le n many) earlier) ∙ sym (within_more many (suc k) earlier true (le-leb (suc k) many (omega (arith, below))));
      fits = fits ∙ is.fits ∙ fits_same many earlier (earlier ++ suc k ∷ []) (λ i h. ⊎_elim
          (λ (same : i ≡ k). subst (λ i. few (earlier ++ suc k ∷ []) i ≡ few earlier i) (sym same)
          (le-leb (times_named (earlier ++ suc k ∷ []) k) most_counted (omega (arith, up.0, this_place earlier (suc k) k (omega arith)))
          ∙ sym (le-leb (times_named earlier k) most_counted (omega (arith, up.0)))))
          (λ (apart : i ≢ k). ap (λ n. nat_le n most_counted) (other_place earlier (suc k) i (λ e. apart (omega (arith, e)))))
          (cases_eq i k));
    }

-- a place that has the most cells already
pub full_counted : (before after : CensusDef) (k : ℕ) → k < length before.counts → most_counted ≤ get_or before.counts k 0 → after.counts ≡ before.counts
    → after.is_within ≡ before.is_within → after.fits ≡ false → CountsMore (suc k ∷ []) before after
full_counted before after k inside full counts within fits many earlier is =
    let below : k < many = omega (arith, inside, is.many_counts) in
    let up = most_up (times_named earlier k) (get_or before.counts k 0) (is.counts k below) full in
    record {
      many_counts = ap length counts ∙ is.many_counts;
      counts = λ i h. ⊎_elim
          (λ (same : i ≡ k). subst (λ i. get_or after.counts i 0 ≡ min (times_named (earlier ++ suc k ∷ []) i) most_counted) (sym same)
          (ap (λ l. get_or l k 0) counts ∙ up.1 ∙ ap (λ n. min n most_counted) (sym (this_place earlier (suc k) k (omega arith)))))
          (λ (apart : i ≢ k). ap (λ l. get_or l i 0) counts ∙ is.counts i h ∙ ap (λ n. min n most_counted) (sym (other_place earlier (suc k) i (λ e. apart (omega (arith, e))))))
          (cases_eq i k);
      within = within ∙ is.within ∙ and_true (list_all (λ n. nat_le n many) earlier) ∙ sym (within_more many (suc k) earlier true (le-leb (suc k) many (omega (arith, below))));
      fits = fits ∙ sym (fits_by many (earlier ++ suc k ∷ []) ∙ one_fails (few (earlier ++ suc k ∷ [])) many k below
          (more_than (times_named (earlier ++ suc k ∷ []) k) most_counted (omega (arith, up.0, this_place earlier (suc k) k (omega arith)))));
    }

pub past_counted : (before after : CensusDef) (k : ℕ) → length before.counts ≤ k → after.counts ≡ before.counts → after.is_within ≡ false → after.fits ≡ before.fits → CountsMore (suc k ∷ []) before after
past_counted before after k past counts within fits many earlier is =
    let above : many ≤ k = omega (arith, past, is.many_counts) in
    record {
      many_counts = ap length counts ∙ is.many_counts;
      counts = λ i h. ap (λ l. get_or l i 0) counts ∙ is.counts i h ∙ ap (λ n. min n most_counted) (sym (other_place earlier (suc k) i (λ e. omega (arith, e, h, above))));
      within = within ∙ and_false (list_all (λ n. nat_le n many) earlier) ∙ sym (within_more many (suc k) earlier false (more_than (suc k) many (omega (arith, above))));
      fits = fits ∙ is.fits ∙ fits_same many earlier (earlier ++ suc k ∷ []) (λ i h. ap (λ n. nat_le n most_counted) (other_place earlier (suc k) i (λ e. omega (arith, e, h, above))));
    }

-- COLUMNS IN TURN

-- the numbers that the cells of the first columns name, column by column
abbrev pub by_columns : (ℕ → ℕ → ValueRef) → ℕ → ℕ → List ℕ
by_columns cells n zero = []
by_columns cells n (suc j) = by_columns cells n j ++ numbers_of_row (tabulated n (λ i. cells i j))

no_columns : (p : ℕ → Bool) (is : List ℕ) → count_by p (numbers_of_rows (map (λ i. []) is)) ≡ 0
no_columns p [] = refl
no_columns p (i ∷ is) = no_columns p is

column_added : (p : ℕ → Bool) (cells : ℕ → ℕ → ValueRef) (j : ℕ) (is : List ℕ)
    → count_by p (numbers_of_rows (map (λ i. tabulated (suc j) (cells i)) is)) ≡ count_by p (numbers_of_rows (map (λ i. tabulated j (cells i)) is)) + count_by p (numbers_of_row (map (λ i. cells i j) is))
column_added p cells j [] = refl
column_added p cells j (i ∷ is) =
    let more : tabulated (suc j) (cells i) ≡ tabulated j (cells i) ++ cells i j ∷ [] = (let e : suc j ≡ j + 1 = omega arith in ap (λ k. tabulated k (cells i)) e) ∙ tabulated_more j (cells i) in
    let here : count_by p (numbers_of_row (tabulated (suc j) (cells i))) ≡ count_by p (numbers_of_row (tabulated j (cells i))) + count_by p (numbers_of_row (cells i j ∷ [])) =
    ap (λ row. count_by p (numbers_of_row row)) more ∙ ap (count_by p) (filter_map-append number_of_cell (tabulated j (cells i)) (cells i j ∷ [])) ∙ count-append p (numbers_of_row (tabulated j (cells i))) (numbers_of_row (cells i j ∷ [])) in
    let beside : count_by p (numbers_of_row (cells i j ∷ map (λ i. cells i j) is)) ≡ count_by p (numbers_of_row (cells i j ∷ [])) + count_by p (numbers_of_row (map (λ i. cells i j) is)) =
    ap (count_by p) (filter_map-append number_of_cell (cells i j ∷ []) (map (λ i. cells i j) is)) ∙ count-append p (numbers_of_row (cells i j ∷ [])) (numbers_of_row (map (λ i. cells i j) is)) in
    omega (
      arith,
      here,
      beside,
      count-append p (numbers_of_row (tabulated (suc j) (cells i))) (numbers_of_rows (map (λ i. tabulated (suc j) (cells i)) is)),
      count-append p (numbers_of_row (tabulated j (cells i))) (numbers_of_rows (map (λ i. tabulated j (cells i)) is)),
      column_added p cells j is,
    )

pub columns_are_rows : (cells : ℕ → ℕ → ValueRef) (n j : ℕ) (p : ℕ → Bool) → count_by p (by_columns cells n j) ≡ count_by p (numbers_of_rows (tabulated n (λ i. tabulated j (cells i))))
columns_are_rows cells n zero p = sym (no_columns p (numbers_from 0 n))
columns_are_rows cells n (suc j) p = omega (
  arith,
  count-append p (by_columns cells n j) (numbers_of_row (tabulated n (λ i. cells i j))),
  columns_are_rows cells n j p,
  column_added p cells j (numbers_from 0 n),
)

pub one_column_more : (cells : ℕ → ℕ → ValueRef) (n j : ℕ) → by_columns cells n (j + 1) ≡ by_columns cells n j ++ numbers_of_row (tabulated n (λ i. cells i j))
one_column_more cells n j = let e : j + 1 ≡ suc j = omega arith in ap (by_columns cells n) e

-- what the loops add

pub item_counted : (items : List ValueRef) (i : ℕ) (x : ValueRef) (a b c : CensusDef) → i < length items → x ≡ get_or items i x
    → CountsMore (numbers_of_row (take i items)) a b → CountsMore (numbers_of_row (x ∷ [])) b c → CountsMore (numbers_of_row (take (i + 1) items)) a c
item_counted items i x a b c h is so_far now =
    subst (λ l. CountsMore l a c)
    (sym (ap numbers_of_row (take_more items i x h) ∙ filter_map-append number_of_cell (take i items) (get_or items i x ∷ []) ∙ ap (λ y. numbers_of_row (take i items) ++ numbers_of_row (y ∷ [])) (sym is)))
    (more_then (numbers_of_row (take i items)) (numbers_of_row (x ∷ [])) a b c so_far now)

pub row_counted : (rows : List (List ValueRef)) (i : ℕ) (row seen : List ValueRef) (a b c : CensusDef) → i < length rows → row ≡ get_or rows i row → seen ≡ row
    → CountsMore (numbers_of_rows (take i rows)) a b → CountsMore (numbers_of_row seen) b c → CountsMore (numbers_of_rows (take (i + 1) rows)) a c
row_counted rows i row seen a b c h is same so_far now =
    subst (λ l. CountsMore l a c)
    (sym (ap numbers_of_rows (take_more rows i row h) ∙ flat_map-append (filter_map number_of_cell) (take i rows) (get_or rows i row ∷ [])
    ∙ ap (λ l. numbers_of_rows (take i rows) ++ l) (append-nil (numbers_of_row (get_or rows i row)) ∙ ap numbers_of_row (sym is ∙ sym same))))
    (more_then (numbers_of_rows (take i rows)) (numbers_of_row seen) a b c so_far now)

pub cell_counted : (cells : ℕ → ValueRef) (i : ℕ) (x : ValueRef) (a b c : CensusDef) → x ≡ cells i
    → CountsMore (numbers_of_row (tabulated i cells)) a b → CountsMore (numbers_of_row (x ∷ [])) b c → CountsMore (numbers_of_row (tabulated (i + 1) cells)) a c
cell_counted cells i x a b c is so_far now =
    subst (λ l. CountsMore l a c)
    (sym (ap numbers_of_row (tabulated_more i cells) ∙ filter_map-append number_of_cell (tabulated i cells) (cells i ∷ []) ∙ ap (λ y. numbers_of_row (tabulated i cells) ++ numbers_of_row (y ∷ [])) (sym is)))
    (more_then (numbers_of_row (tabulated i cells)) (numbers_of_row (x ∷ [])) a b c so_far now)

-- numbers, and the bytes of streams, name no place
no_number : (middle n : ℕ) → number_of_cell (cell_of_number middle n) ≡ None
no_number middle n = either (n == 0) where
  either : (b : Bool) → number_of_cell (cond b cell.Null (cell.Int (pos n -ℤ pos middle))) ≡ None
  either true = refl
  either false = refl

names_none : (type : ColumnType) (bytes : List ℕ) → is_for_texts type ≡ false → number_of_cell (cell_in type bytes) ≡ None
names_none coltype.Int16 bytes e = no_number (2 ^ 15) (number_of bytes)
names_none coltype.Int32 bytes e = no_number (2 ^ 31) (number_of bytes)
names_none (coltype.Str n) bytes e = absurd (true≢false e)
names_none coltype.Binary bytes e = refl

none_named : (cells : ℕ → ValueRef) (is : List ℕ) → ((i : ℕ) → number_of_cell (cells i) ≡ None) → numbers_of_row (map cells is) ≡ []
none_named cells [] none = refl
none_named cells (i ∷ is) none = ap (λ o. cons_option o (numbers_of_row (map cells is))) (none i) ∙ none_named cells is none

pub no_texts : (type : ColumnType) (n : ℕ) (bytes : ℕ → List ℕ) (c : CensusDef) → is_for_texts type ≡ false → CountsMore (numbers_of_row (tabulated n (λ i. cell_in type (bytes i)))) c c
no_texts type n bytes c e = subst (λ l. CountsMore l c c) (sym (none_named (λ i. cell_in type (bytes i)) (numbers_from 0 n) (λ i. names_none type (bytes i) e))) (nothing_more c)

-- the bytes of a column are there
pub column_within : (long : Bool) (columns : List ColumnDef) (bytes : List ℕ) (start n j w : ℕ) (type : ColumnType) (d : ColumnDef) → n ≡ row_count long (types_of columns) bytes → j < length columns
    → type ≡ (slice_index_or columns j d).coltype → w ≡ width long type → start ≡ n * sum (take j (widths long (types_of columns))) → start + n * w ≤ length bytes
column_within long columns bytes start n j w type d many h is wide at =
    omega (
      arith,
      column_inside long (types_of columns) bytes n j coltype.Int16 many (below_types columns j h),
      at,
      ap (λ v. n * v) (wide ∙ ap (width long) (type_at columns j type d h is)),
    )

-- one column more
pub column_counted : (long : Bool) (columns : List ColumnDef) (bytes : List ℕ) (start n j : ℕ) (type : ColumnType) (d : ColumnDef) (a b c : CensusDef) → n ≡ row_count long (types_of columns) bytes
    → j < length columns → type ≡ (slice_index_or columns j d).coltype → start ≡ n * sum (take j (widths long (types_of columns)))
    → CountsMore (by_columns (cell_at long (types_of columns) bytes) n j) a b
    → CountsMore (numbers_of_row (tabulated n (λ i. cell_in type (take (width long type) (drop (start + i * width long type) bytes))))) b c
    → CountsMore (by_columns (cell_at long (types_of columns) bytes) n (j + 1)) a c
column_counted long columns bytes start n j type d a b c many h is at so_far now =
    let cells : ℕ → ValueRef = λ i. cell_in type (take (width long type) (drop (start + i * width long type) bytes)) in
    let same : (i : ℕ) → cells i ≡ cell_at long (types_of columns) bytes i j = λ i. cell_read long columns bytes start n i j (width long type) type d (cells i) many h is refl at refl in
    subst (λ l. CountsMore l a c)
    (ap (λ (f : ℕ → ValueRef). by_columns (cell_at long (types_of columns) bytes) n j ++ numbers_of_row (tabulated n f)) (λ k i. same i k) ∙ sym (one_column_more (cell_at long (types_of columns) bytes) n j))
    (more_then (by_columns (cell_at long (types_of columns) bytes) n j) (numbers_of_row (tabulated n cells)) a b c so_far now)

-- all columns
pub columns_counted : (long : Bool) (columns : List ColumnDef) (bytes : List ℕ) (n j : ℕ) (a b : CensusDef) → j ≡ length columns → CountsMore (by_columns (cell_at long (types_of columns) bytes) n j) a b
    → CountsMore (numbers_of_rows (tabulated n (row_in long (types_of columns) bytes))) a b
columns_counted long columns bytes n j a b all more =
    let j_is : j ≡ length (types_of columns) = all ∙ sym (length-types_of columns) in
    reordered (by_columns (cell_at long (types_of columns) bytes) n j) (numbers_of_rows (tabulated n (row_in long (types_of columns) bytes))) a b
    (λ q. columns_are_rows (cell_at long (types_of columns) bytes) n j q ∙ ap (λ k. count_by q (numbers_of_rows (tabulated n (λ i. tabulated k (cell_at long (types_of columns) bytes i))))) j_is)
    more

-- the rows of a stream
pub stored_counted : (long : Bool) (types : List ColumnType) (bytes : List ℕ) (n : ℕ) (b : Bool) (before after : CensusDef) → n ≡ row_count long types bytes → b ≡ is_some (rows_in long types bytes) → b ≡ true
    → CountsMore (numbers_of_rows (tabulated n (row_in long types bytes))) before after → CountsMore (numbers_of_rows (unwrap_or (rows_in long types bytes) [])) before after
stored_counted long types bytes n b before after many is readable more =
    either (nat_le (row_count long types bytes) 65536) (sym is ∙ readable) (ap (λ n. numbers_of_rows (tabulated n (row_in long types bytes))) many) where
      either : (r : Bool) → is_some (cond r (Some (tabulated (row_count long types bytes) (row_in long types bytes))) None) ≡ true
          → numbers_of_rows (tabulated n (row_in long types bytes)) ≡ numbers_of_rows (tabulated (row_count long types bytes) (row_in long types bytes))
          → CountsMore (numbers_of_rows (unwrap_or (cond r (Some (tabulated (row_count long types bytes) (row_in long types bytes))) None) [])) before after
      either true e same = subst (λ l. CountsMore l before after) same more
      either false e same = absurd (true≢false (sym e))

pub unread_counted : (o : Option (List (List ValueRef))) (b : Bool) (c : CensusDef) → b ≡ is_some o → b ≡ false → CountsMore (numbers_of_rows (unwrap_or o [])) c c
unread_counted None b c is unread = nothing_more c
unread_counted (Some rows) b c is unread = absurd (true≢false (sym is ∙ unread))

-- WHAT A CENSUS SAYS

-- a place has a count where a cell names it
pub any_counted : (p : ℕ → Bool) (xs : List ℕ) → nat_lt 0 (min (count_by p xs) most_counted) ≡ list_any p xs
any_counted p xs = up_to_some (count_by p xs) ∙ sym (any_by_count p xs) where
  up_to_some : (n : ℕ) → nat_lt 0 (min n most_counted) ≡ nat_lt 0 n
  up_to_some n = ⊎_elim
      (λ (h : n < most_counted). ap (nat_lt 0) (nat.min-eq_left {n = n} {m = most_counted} (omega (arith, h))))
      (λ (h : most_counted ≤ n). ap (nat_lt 0) (nat.min-eq_right {n = most_counted} {m = n} h) ∙ sym (lt-ltb 0 n (omega (arith, h))))
      (cases_lt n most_counted)

  by_first : (b rest : Bool) (n : ℕ) → rest ≡ nat_lt 0 n → (b || rest) ≡ nat_lt 0 (cond b 1 0 + n)
  by_first true rest n e = sym (lt-ltb 0 (1 + n) (omega arith))
  by_first false rest n e = e ∙ (let z : n ≡ 0 + n = omega arith in ap (nat_lt 0) z)

  any_by_count : (p : ℕ → Bool) (xs : List ℕ) → list_any p xs ≡ nat_lt 0 (count_by p xs)
  any_by_count p [] = refl
  any_by_count p (x ∷ xs) = by_first (p x) (list_any p xs) (count_by p xs) (any_by_count p xs) ∙ ap (nat_lt 0) (sym (sum_by-cons (λ x. cond (p x) 1 0) x xs))

-- where it fits, each count is the number of the cells
pub all_counted : (many : ℕ) (numbers : List ℕ) (c : CensusDef) → IsCensus many numbers c → c.fits ≡ true → (i : ℕ) → i < many → slice_index c.counts i ≡ times_named numbers i
all_counted many numbers c is fit i h = is.counts i h ∙ nat.min-eq_left {n = times_named numbers i} {m = most_counted}
    (leb-true (times_named numbers i) most_counted (each_number (few numbers) 0 many (sym (fits_by many numbers) ∙ sym is.fits ∙ fit) i (omega arith) (omega (arith, h))))

pub counted_past : (n most : ℕ) → most < min n most_counted → most < n
counted_past n most h = omega (arith, h, nat.min-le_left n most_counted)
