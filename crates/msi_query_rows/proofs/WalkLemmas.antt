-- Loops over the relations of a product, and over numbers.
use Rattle.std.proofs.Common.{◌≡◌, ℕ, zero, suc, ◌+◌, ◌-◌, ◌<◌, ◌≤◌, Bool, true, false, List, [], ◌∷◌, ◌++◌, length, get_or, take, drop, refl, sym, ap, ◌∙◌, arith, ltb-true, append_assoc}
use Rattle.std.specs.Prelude.{map, filter, Option, Some, None, option_map, nat_lt, slice_index_or, slice_set, if◌then◌else◌}
use Rattle.std.specs.List.{range_with_len}
use Rattle.std.proofs.lemmas.List.{append-nil, map-append, take_more}
use Rattle.std.proofs.lemmas.Bool.{lt-ltb}
use Rattle.msi_query_rows.specs.Combinations.{combined, located, numbered_row, with_each}
use Rattle.msi_base.proofs.BoolLemmas.{by_test}
use Rattle.msi_base.proofs.ListLemmas.{filter_yes, filter_no}
use Rattle.msi_query_rows.proofs.ProductLemmas.{combined_next}

-- ---- where a place is, from the i-th width on

abbrev pub shifted : ℕ → Option (ℕ × ℕ) → Option (ℕ × ℕ)
shifted i o = option_map (λ at. (i + at.0, at.1)) o

pub not_shifted : (o : Option (ℕ × ℕ)) → o ≡ shifted 0 o
not_shifted None = refl
not_shifted (Some at) = let e : at.0 ≡ 0 + at.0 = omega arith in ap (λ k. Some (k, at.1)) e

shifted_more : (i : ℕ) (o : Option (ℕ × ℕ)) → shifted i (option_map (λ at. (suc at.0, at.1)) o) ≡ shifted (i + 1) o
shifted_more i None = refl
shifted_more i (Some at) = let e : i + suc at.0 ≡ i + 1 + at.0 = omega arith in ap (λ k. Some (k, at.1)) e

test_false : (m n : ℕ) → n ≤ m → nat_lt m n ≡ false
test_false m n h = by_test (nat_lt m n) (λ t. let below : m < n = ltb-true m n t in absurd (omega arith)) (λ t. t)

located_first : (widths : List ℕ) (i rest : ℕ) → i < length widths → rest < get_or widths i 0 → located (drop i widths) rest ≡ Some (0, rest)
located_first [] i rest h l = absurd (omega arith)
located_first (w ∷ ws) zero rest h l = ap (λ b. if b then Some (0, rest) else option_map (λ (at : ℕ × ℕ). (suc at.0, at.1)) (located ws (rest - w))) (lt-ltb rest w l)
located_first (w ∷ ws) (suc i) rest h l = located_first ws i rest (omega arith) l

located_later : (widths : List ℕ) (i rest : ℕ) → i < length widths → get_or widths i 0 ≤ rest
    → located (drop i widths) rest ≡ option_map (λ at. (suc at.0, at.1)) (located (drop (suc i) widths) (rest - get_or widths i 0))
located_later [] i rest h l = absurd (omega arith)
located_later (w ∷ ws) zero rest h l = ap (λ b. if b then Some (0, rest) else option_map (λ (at : ℕ × ℕ). (suc at.0, at.1)) (located ws (rest - w))) (test_false rest w l)
located_later (w ∷ ws) (suc i) rest h l = located_later ws i rest (omega arith) l

pub located_here : (widths : List ℕ) (place i rest width : ℕ) → i < length widths → width ≡ get_or widths i 0 → rest < width
    → located widths place ≡ shifted i (located (drop i widths) rest) → Some (i, rest) ≡ located widths place
located_here widths place i rest width h e l s =
    let below : rest < get_or widths i 0 = omega arith in
    let same : i ≡ i + 0 = omega arith in
    ap (λ k. Some (k, rest)) same ∙ ap (shifted i) (sym (located_first widths i rest h below)) ∙ sym s

pub located_behind : (widths : List ℕ) (place i rest less width : ℕ) → i < length widths → width ≡ get_or widths i 0 → width ≤ rest → less ≡ rest - width
    → located widths place ≡ shifted i (located (drop i widths) rest) → located widths place ≡ shifted (i + 1) (located (drop (i + 1) widths) less)
located_behind widths place i rest less width h e l m s =
    let beyond : get_or widths i 0 ≤ rest = omega arith in
    let next : suc i ≡ i + 1 = omega arith in
    s ∙ ap (shifted i) (located_later widths i rest h beyond)
    ∙ shifted_more i (located (drop (suc i) widths) (rest - get_or widths i 0))
    ∙ ap (λ k. shifted (i + 1) (located (drop k widths) (rest - get_or widths i 0))) next
    ∙ ap (λ k. shifted (i + 1) (located (drop (i + 1) widths) (rest - k))) (sym e)
    ∙ ap (λ k. shifted (i + 1) (located (drop (i + 1) widths) k)) (sym m)

all_dropped : {X : Type 0} (xs : List X) (i : ℕ) → length xs ≤ i → drop i xs ≡ []
all_dropped [] zero h = refl
all_dropped [] (suc i) h = refl
all_dropped (x ∷ xs) zero h = absurd (omega arith)
all_dropped (x ∷ xs) (suc i) h = all_dropped xs i (omega arith)

pub located_nowhere : (widths : List ℕ) (place i rest : ℕ) → length widths ≤ i → located widths place ≡ shifted i (located (drop i widths) rest) → None ≡ located widths place
located_nowhere widths place i rest h s = sym (s ∙ ap (λ ws. shifted i (located ws rest)) (all_dropped widths i h))

-- ---- a row, relation by relation

pub row_more : {X : Type 0} (rels : List (List (List X))) (numbers : List ℕ) (i : ℕ) (row more piece : List X) → i < length rels
    → piece ≡ numbered_row (slice_index_or rels i []) (slice_index_or numbers i 0) → more ≡ row ++ piece
    → row ++ combined (drop i rels) (drop i numbers) ≡ combined rels numbers → more ++ combined (drop (i + 1) rels) (drop (i + 1) numbers) ≡ combined rels numbers
row_more {X} rels numbers i row more piece h p m s =
    let next : i + 1 ≡ suc i = omega arith in
    ap (λ k. more ++ combined (drop k rels) (drop k numbers)) next
    ∙ ap (λ (r : List X). r ++ combined (drop (suc i) rels) (drop (suc i) numbers)) (m ∙ ap (λ (q : List X). row ++ q) p)
    ∙ append_assoc row (numbered_row (slice_index_or rels i []) (slice_index_or numbers i 0)) (combined (drop (suc i) rels) (drop (suc i) numbers))
    ∙ ap (λ (r : List X). row ++ r) (sym (combined_next rels numbers i h)) ∙ s

pub row_done : {X : Type 0} (rels : List (List (List X))) (numbers : List ℕ) (i : ℕ) (row : List X) → length rels ≤ i
    → row ++ combined (drop i rels) (drop i numbers) ≡ combined rels numbers → row ≡ combined rels numbers
row_done {X} rels numbers i row h s =
    sym (append-nil row) ∙ ap (λ (rs : List (List (List X))). row ++ combined rs (drop i numbers)) (sym (all_dropped rels i h)) ∙ s

-- ---- each number in turn

filter_joined : {X : Type 0} (p : X → Bool) (xs ys : List X) → filter p (xs ++ ys) ≡ filter p xs ++ filter p ys
filter_joined p [] ys = refl
filter_joined {X} p (x ∷ xs) ys = by_test (p x)
    (λ t. filter_yes p x (xs ++ ys) t ∙ ap (λ (l : List X). x ∷ l) (filter_joined p xs ys) ∙ ap (λ (l : List X). l ++ filter p ys) (sym (filter_yes p x xs t)))
    (λ t. filter_no p x (xs ++ ys) t ∙ filter_joined p xs ys ∙ ap (λ (l : List X). l ++ filter p ys) (sym (filter_no p x xs t)))

each_more : (keeps : List ℕ → Bool) (relation : ℕ) (numbers combination : List ℕ) (i number : ℕ) → i < length numbers → number ≡ get_or numbers i number
    → with_each keeps relation (take (i + 1) numbers) combination ≡ with_each keeps relation (take i numbers) combination ++ filter keeps (slice_set combination relation number ∷ [])
each_more keeps relation numbers combination i number h e =
    ap (λ (ns : List ℕ). with_each keeps relation ns combination) (take_more numbers i number h ∙ ap (λ (n : ℕ). take i numbers ++ n ∷ []) (sym e))
    ∙ ap (filter keeps) (map-append (λ n. slice_set combination relation n) (take i numbers) (number ∷ []))
    ∙ filter_joined keeps (map (λ n. slice_set combination relation n) (take i numbers)) (slice_set combination relation number ∷ [])

pub each_kept : (keeps : List ℕ → Bool) (relation : ℕ) (numbers combination made : List ℕ) (i number : ℕ) (before found more : List (List ℕ)) → i < length numbers → number ≡ get_or numbers i number
    → made ≡ slice_set combination relation number → keeps made ≡ true → more ≡ found ++ made ∷ []
    → found ≡ before ++ with_each keeps relation (take i numbers) combination → more ≡ before ++ with_each keeps relation (take (i + 1) numbers) combination
each_kept keeps relation numbers combination made i number before found more h e m t p s =
    p ∙ ap (λ (l : List (List ℕ)). l ++ made ∷ []) s
    ∙ append_assoc before (with_each keeps relation (take i numbers) combination) (made ∷ [])
    ∙ ap (λ (l : List (List ℕ)). before ++ l) (ap (λ (l : List (List ℕ)). with_each keeps relation (take i numbers) combination ++ l) (sym (filter_yes keeps made [] t) ∙ ap (λ (x : List ℕ). filter keeps (x ∷ [])) m)
    ∙ sym (each_more keeps relation numbers combination i number h e))

pub each_passed : (keeps : List ℕ → Bool) (relation : ℕ) (numbers combination made : List ℕ) (i number : ℕ) (before found : List (List ℕ)) → i < length numbers → number ≡ get_or numbers i number
    → made ≡ slice_set combination relation number → keeps made ≡ false
    → found ≡ before ++ with_each keeps relation (take i numbers) combination → found ≡ before ++ with_each keeps relation (take (i + 1) numbers) combination
each_passed keeps relation numbers combination made i number before found h e m t s =
    s ∙ ap (λ (l : List (List ℕ)). before ++ l) (sym (append-nil (with_each keeps relation (take i numbers) combination))
    ∙ ap (λ (l : List (List ℕ)). with_each keeps relation (take i numbers) combination ++ l) (sym (filter_no keeps made [] t) ∙ ap (λ (x : List ℕ). filter keeps (x ∷ [])) m)
    ∙ sym (each_more keeps relation numbers combination i number h e))

pub set_beyond : (numbers : List ℕ) (r i : ℕ) → length numbers ≤ r → slice_set numbers r i ≡ numbers
set_beyond [] zero i h = refl
set_beyond [] (suc r) i h = refl
set_beyond (n ∷ ns) zero i h = absurd (omega arith)
set_beyond (n ∷ ns) (suc r) i h = ap (λ (l : List ℕ). n ∷ l) (set_beyond ns r i (omega arith))

range_more : (a n : ℕ) → range_with_len a (suc n) ≡ range_with_len a n ++ (a + n) ∷ []
range_more a zero = let e : a ≡ a + 0 = omega arith in ap (λ (k : ℕ). k ∷ []) e
range_more a (suc n) = let e : a + 1 + n ≡ a + suc n = omega arith in ap (λ (l : List ℕ). a ∷ l) (range_more (a + 1) n ∙ ap (λ (k : ℕ). range_with_len (a + 1) n ++ k ∷ []) e)

pub numbers_more : (numbers more : List ℕ) (i : ℕ) → more ≡ numbers ++ i ∷ [] → numbers ≡ range_with_len 0 i → more ≡ range_with_len 0 (i + 1)
numbers_more numbers more i m e =
    let here : i ≡ 0 + i = omega arith in
    let next : suc i ≡ i + 1 = omega arith in
    m ∙ ap (λ (l : List ℕ). l ++ i ∷ []) e ∙ ap (λ (k : ℕ). range_with_len 0 i ++ k ∷ []) here ∙ sym (range_more 0 i) ∙ ap (range_with_len 0) next
