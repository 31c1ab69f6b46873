-- What the rows of languages have in common, and what is found in them.
use Rattle.std.proofs.Common.{◌≡◌, ℕ, zero, suc, ◌+◌, ◌/◌, ◌<◌, Bool, true, false, ◌&&◌, ◌==◌, nat_lt, List, [], ◌∷◌, ◌++◌, length, get_or, drop, map, find, Option, None, Some, Result, Ok, Err, MatchResult, codes, refl, sym, ◌∙◌, ap, subst, add-one, arith, bytes_eq, Bor, inl, inr}
use Rattle.std.specs.List.{list_all, flat_map, Contains}
use Rattle.std.specs.List.Sorted.{IsStrictlyIncreasing, IsSearchInRange, IsBinarySearchResult, IsNonDecreasingBy}
use Rattle.std.specs.Option.{option_map, option_map_or, option_or}
use Rattle.std.specs.Ordering.{nat_cmp, ordering_index}
use native.Mathlib.Numerals.{unary_clauses}
use Rattle.std.proofs.Math.Seq.{drop-cons}
use Rattle.std.proofs.lemmas.Bool.{true≢false, and_parts, cases_lt, cond_both, eqb-true, ltb-true}
use Rattle.std.proofs.lemmas.Bool.Decides.{nat_tests}
use Rattle.std.proofs.lemmas.Cmp.{ranked}
use Rattle.std.proofs.lemmas.Grind.{common_steps}
use Rattle.std.proofs.lemmas.List.{get_or-map}
use Rattle.std.proofs.lemmas.List.Elements.{All-contains}
use Rattle.std.proofs.lemmas.List.Folds.{find-append, list_all-append}
use Rattle.std.proofs.lemmas.List.Kept.{AllPairs-from_increasing}
use Rattle.std.proofs.lemmas.List.Sums.{AllPass-from_list_all}
use Rattle.std.proofs.lemmas.Slice.Eq.{bytes_eq-Decides}
use Rattle.msi_base.proofs.BoolLemmas.{by_test}
use Rattle.msi_base.proofs.ListLemmas.{find-map}
use Rattle.msi_categories.specs.LanguageRows.{language_rows, rows_told, rows_of_sub_language, languages_alone, first_regions, further_regions, last_regions}
use Rattle.msi_categories.specs.Languages.{LanguageRowsAscend, LanguageIdsTellTags, LanguageTagsTellIds, id_of_tag, tag_of}

-- each number is below the next
abbrev ascends : List ℕ → Bool
ascends [] = true
ascends (x ∷ []) = true
ascends (x ∷ y ∷ xs) = nat_lt x y && ascends (y ∷ xs)

IsStrictlyIncreasing-from_test : (xs : List ℕ) → ascends xs ≡ true → IsStrictlyIncreasing xs
IsStrictlyIncreasing-from_test [] up k within = absurd (omega arith)
IsStrictlyIncreasing-from_test (x ∷ []) up k within = absurd (omega arith)
IsStrictlyIncreasing-from_test (x ∷ y ∷ xs) up zero within = ltb-true x y (and_parts (nat_lt x y) (ascends (y ∷ xs)) up).0
IsStrictlyIncreasing-from_test (x ∷ y ∷ xs) up (suc k) within =
    let next = IsStrictlyIncreasing-from_test (y ∷ xs) (and_parts (nat_lt x y) (ascends (y ∷ xs)) up).1 k (omega arith) in
    simp unary_clauses (simp unary_clauses at next)

-- over all rows, by computation
ids_pass : ascends (map (λ (row : ℕ × List ℕ). row.0) language_rows) ≡ true
unfolding language_rows languages_alone first_regions further_regions last_regions
ids_pass = refl

abbrev tells_tag : ℕ × List ℕ → Bool
tells_tag row = bytes_eq (tag_of row.0) row.1

tags_pass : list_all tells_tag language_rows ≡ true
unfolding language_rows languages_alone first_regions further_regions last_regions
tags_pass = refl

abbrev tells_id : ℕ × List ℕ → Bool
tells_id row = id_of_tag row.1 == row.0

ids_of_tags_pass : list_all tells_id language_rows ≡ true
unfolding language_rows languages_alone first_regions further_regions last_regions
ids_of_tags_pass = refl

pub language_rows_ascend : LanguageRowsAscend
language_rows_ascend = IsStrictlyIncreasing-from_test _ ids_pass

told_in : (rows : List (ℕ × List ℕ)) → list_all tells_tag rows ≡ true → (row : ℕ × List ℕ) → Contains rows row → tag_of row.0 ≡ row.1
told_in rows all row stands =
    let passes : tells_tag row ≡ true = All-contains (λ r. tells_tag r ≡ true) rows row (AllPass-from_list_all tells_tag rows all) stands in
    grind (arith, bytes_eq-Decides (tag_of row.0) row.1)

pub language_ids_tell_tags : LanguageIdsTellTags
language_ids_tell_tags = told_in language_rows tags_pass

pub language_tags_tell_ids : LanguageTagsTellIds
language_tags_tell_ids row stands =
    let passes : tells_id row ≡ true = All-contains (λ r. tells_id r ≡ true) language_rows row (AllPass-from_list_all tells_id language_rows ids_of_tags_pass) stands in
    grind (arith, nat_tests)

-- where no element passes a test, none is found
find-none : {X : Type 0} (p : X → Bool) (xs : List X) → ((k : ℕ) (d : X) → k < length xs → p (get_or xs k d) ≡ false) → find p xs ≡ None
find-none p [] fails = refl
find-none p (x ∷ xs) fails = rw (fails zero x (omega arith)) (find-none p xs (λ k d within. fails (suc k) d (omega arith)))

-- the id of a row
abbrev id_in : ℕ × List ℕ → ℕ
id_in row = row.0

-- the test of an id
abbrev has_id : ℕ → ℕ × List ℕ → Bool
has_id id row = row.0 == id

-- what holds of each table
by_table : (P : List (ℕ × List ℕ) → Type 0) → P languages_alone → P first_regions → P further_regions → P last_regions → (sub : ℕ) → P (rows_of_sub_language sub)
by_table P a b c d sub = cond_both (sub == 0) languages_alone _ P (λ _. a) (λ _. cond_both (sub == 1) first_regions _ P (λ _. b) (λ _. cond_both (nat_lt sub 8) further_regions last_regions P (λ _. c) (λ _. d)))

-- each table's ids rise
languages_alone_rise : ascends (map id_in languages_alone) ≡ true
unfolding languages_alone
languages_alone_rise = refl

first_regions_rise : ascends (map id_in first_regions) ≡ true
unfolding first_regions
first_regions_rise = refl

further_regions_rise : ascends (map id_in further_regions) ≡ true
unfolding further_regions
further_regions_rise = refl

last_regions_rise : ascends (map id_in last_regions) ≡ true
unfolding last_regions
last_regions_rise = refl

table_rises : (sub : ℕ) → IsStrictlyIncreasing (map id_in (rows_of_sub_language sub))
table_rises sub = IsStrictlyIncreasing-from_test _ (by_table (λ rows. ascends (map id_in rows) ≡ true) languages_alone_rise first_regions_rise further_regions_rise last_regions_rise sub)

-- each table's ids tell their tags
table_tells_tags : (sub : ℕ) → list_all tells_tag (rows_of_sub_language sub) ≡ true
unfolding language_rows
table_tells_tags sub =
    let all = and_parts _ _ (sym (list_all-append tells_tag languages_alone (first_regions ++ (further_regions ++ last_regions))) ∙ tags_pass) in
    let behind = and_parts _ _ (sym (list_all-append tells_tag first_regions (further_regions ++ last_regions)) ∙ all.1) in
    let last = and_parts _ _ (sym (list_all-append tells_tag further_regions last_regions) ∙ behind.1) in
    by_table (λ rows. list_all tells_tag rows ≡ true) all.0 behind.0 last.0 last.1 sub

-- a test of sub-languages that each row's passes
abbrev all_within : (ℕ → Bool) → List (ℕ × List ℕ) → Bool
all_within test = list_all (λ row. test (row.0 / 1024))

abbrev is_further : ℕ → Bool
is_further sub = nat_lt 1 sub && nat_lt sub 8

languages_alone_within : all_within (λ sub. sub == 0) languages_alone ≡ true
unfolding languages_alone
languages_alone_within = refl

first_regions_within : all_within (λ sub. sub == 1) first_regions ≡ true
unfolding first_regions
first_regions_within = refl

further_regions_within : all_within is_further further_regions ≡ true
unfolding further_regions
further_regions_within = refl

last_regions_within : all_within (λ sub. nat_lt 7 sub) last_regions ≡ true
unfolding last_regions
last_regions_within = refl

-- an id whose sub-language fails it has no row there
none_elsewhere : (test : ℕ → Bool) (rows : List (ℕ × List ℕ)) → all_within test rows ≡ true → (id : ℕ) → test (id / 1024) ≡ false → find (has_id id) rows ≡ None
none_elsewhere test [] within id fails = refl
none_elsewhere test (row ∷ rows) within id fails =
    let parts = and_parts (test (row.0 / 1024)) (all_within test rows) within in
    by_test (has_id id row)
    (λ t. let same : row.0 ≡ id = eqb-true row.0 id t in absurd (true≢false (sym parts.0 ∙ ap (λ n. test (n / 1024)) same ∙ fails)))
    (λ t. rw t (none_elsewhere test rows parts.1 id fails))

option_or_none : {X : Type 0} (o : Option X) → option_or o None ≡ o
option_or_none None = refl
option_or_none (Some x) = refl

-- what one table alone may have is found in that
found_in_one : (p : ℕ × List ℕ → Bool) (sub : ℕ) → ((sub == 0) ≡ false → find p languages_alone ≡ None) → ((sub == 1) ≡ false → find p first_regions ≡ None) → (is_further sub ≡ false → find p further_regions ≡ None) → (nat_lt 7 sub ≡ false → find p last_regions ≡ None) → find p language_rows ≡ find p (rows_of_sub_language sub)
unfolding language_rows
found_in_one p sub a b c d =
    simp find-append (by_test (sub == 0)
    (λ t. rw (t, b (grind (arith, nat_tests)), c (grind (arith, nat_tests)), d (grind (arith, nat_tests))) (option_or_none _))
    (λ t. by_test (sub == 1)
    (λ u. rw (t, u, a t, c (grind (arith, nat_tests)), d (grind (arith, nat_tests))) (option_or_none _))
    (λ u. by_test (nat_lt sub 8)
    (λ v. rw (t, u, v, a t, b u, d (grind (arith, nat_tests))) (option_or_none _))
    (λ v. rw (t, u, v, a t, b u, c (grind (arith, nat_tests))) refl))))

-- an id is found in the table of its sub-language
found_in_table : (id : ℕ) → find (has_id id) language_rows ≡ find (has_id id) (rows_of_sub_language (id / 1024))
found_in_table id = found_in_one (has_id id) (id / 1024)
    (none_elsewhere (λ s. s == 0) languages_alone languages_alone_within id)
    (none_elsewhere (λ s. s == 1) first_regions first_regions_within id)
    (none_elsewhere is_further further_regions further_regions_within id)
    (none_elsewhere (λ s. nat_lt 7 s) last_regions last_regions_within id)

-- what the tables from one on find: what it finds, else what those behind it find
pub found_from : (p : ℕ × List ℕ → Bool) (tables : List (Bor (List (ℕ × Bor (List ℕ))))) (i : ℕ) (d : Bor (List (ℕ × Bor (List ℕ)))) → i < length tables → find p (flat_map (λ rows. rows_told rows.now) (drop i tables)) ≡ option_or (find p (rows_told (get_or tables i d).now)) (find p (flat_map (λ rows. rows_told rows.now) (drop (i + 1) tables)))
found_from p tables i d within = rw (add-one, drop-cons tables i d) (find-append p (rows_told (get_or tables i d).now) _)

-- the first of two finds is what both find
pub found_first : (o r t : Option (ℕ × List ℕ)) (id : ℕ) → option_map id_in o ≡ Some id → option_or o r ≡ t → id ≡ option_map_or id_in t 0
found_first None r t id e same = cc
found_first (Some row) r t id e same = rw (sym same) cc

-- where the first finds nothing, the second finds what both find
pub passed : (o r t : Option (ℕ × List ℕ)) → option_map id_in o ≡ None → option_or o r ≡ t → r ≡ t
passed None r t e same = same
passed (Some row) r t e same = cc

module _ (sub : ℕ) (xs : List (ℕ × Bor (List ℕ))) (told : rows_told xs ≡ rows_of_sub_language sub) where
  -- what a row of the slice tells
  abbrev told_by : ℕ × Bor (List ℕ) → ℕ × List ℕ
  told_by row = (row.0, row.1.now)

  -- the row at a place tells its tag
  tag_at : (i : ℕ) (d : ℕ × Bor (List ℕ)) → i < length xs → tag_of (get_or xs i d).0 ≡ (get_or xs i d).1.now
  tag_at i d within =
      let row : ℕ × List ℕ = told_by (get_or xs i d) in
      let here : get_or (rows_told xs) i row ≡ row = get_or-map told_by xs i d row within in
      let stands : Contains (rows_told xs) row = (i, grind (arith, common_steps), here) in
      told_in (rows_of_sub_language sub) (table_tells_tags sub) row (subst (λ rows. Contains rows row) told stands)

  -- the ids rise
  ids_rise : (i j : ℕ) (d : ℕ × Bor (List ℕ)) → i < j → j < length xs → (get_or xs i d).0 < (get_or xs j d).0
  ids_rise i j d before within =
      let up : IsStrictlyIncreasing (map id_in (rows_told xs)) = subst (λ rows. IsStrictlyIncreasing (map id_in rows)) (sym told) (table_rises sub) in
      let id_at : (k : ℕ) → k < length xs → get_or (map id_in (rows_told xs)) k d.0 ≡ (get_or xs k d).0 =
      λ k below. get_or-map id_in (rows_told xs) k (told_by d) d.0 (grind (arith, common_steps)) ∙ ap id_in (get_or-map told_by xs k d (told_by d) below) in
      let pair : get_or (map id_in (rows_told xs)) i d.0 < get_or (map id_in (rows_told xs)) j d.0 = AllPairs-from_increasing _ up i j d.0 before (grind (arith, common_steps)) in
      grind (arith, id_at i (omega arith), id_at j within)

  -- the comparisons with an id rise along the rows, as a binary search asks
  comparisons_rise : (id : ℕ) → IsNonDecreasingBy (λ row. ordering_index (nat_cmp row.0 id)) xs
  comparisons_rise id i j d before within = grind (arith, nat_tests, ids_rise i j d)

  -- a binary search by id ends at the id's tag, or where no row has the id
  pub searched : (id : ℕ) → sub ≡ id / 1024 → (r : Result ℕ ℕ) → IsSearchInRange r (length xs) → IsBinarySearchResult (λ row. nat_cmp row.0 id) xs r → MatchResult r (λ i. (d : ℕ × Bor (List ℕ)) → (get_or xs i d).1.now ≡ tag_of id) (λ _. codes "und" ≡ tag_of id)
  searched id own (Ok i) within equal =
      λ d.
      let same : (get_or xs i d).0 ≡ id = ranked _ id _ (sym (equal d)) in
      sym (tag_at i d within) ∙ ap tag_of same
  searched id own (Err i) within parted =
      let parts = parted (comparisons_rise id) in
      let differs : (k : ℕ) (d : ℕ × Bor (List ℕ)) → k < length xs → ((get_or xs k d).0 == id) ≡ false = λ k d below. elim (cases_lt k i) [
        | inl before ↦ let less : (get_or xs k d).0 < id = ranked _ id _ (sym (parts.0 k d (omega arith) before)) in grind (arith, nat_tests)
        | inr after ↦ let greater : id < (get_or xs k d).0 = ranked _ id _ (sym (parts.1 k d after below)) in grind (arith, nat_tests)
      ] in
      let none : find (has_id id) (rows_of_sub_language sub) ≡ None = subst (λ rows. find (has_id id) rows ≡ None) told (find-map (has_id id) told_by xs ∙ ap (option_map told_by) (find-none (λ row. row.0 == id) xs differs)) in
      let nowhere : find (has_id id) language_rows ≡ None = found_in_table id ∙ ap (λ s. find (has_id id) (rows_of_sub_language s)) (sym own) ∙ none in
      sym (ap (λ o. option_map_or (λ row. row.1) o (codes "und")) nowhere)
