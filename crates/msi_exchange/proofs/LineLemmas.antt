-- Lines and their fields are read as they were written.
use Rattle.std.proofs.Common.{◌≡◌, ℕ, ◌-◌, ◌<◌, Bool, false, ◌||◌, List, [], ◌∷◌, ◌++◌, refl, sym, ap, ◌∙◌, arith, cond, eqb, take, length, get_or, append_assoc}
use Rattle.std.specs.List.{All, AllByRecursion, flat_map, list_any, slice_split}
use Rattle.std.specs.Str.Lines.{lines, lines_of_parts, strip_carriage_return}
use Rattle.std.proofs.Math.Seq.{take-append_seam}
use Rattle.std.proofs.lemmas.Bool.{or_parts}
use Rattle.std.proofs.lemmas.Bool.Decides.{Decides-eqb}
use Rattle.std.proofs.lemmas.List.{append-nil, length-append}
use Rattle.std.proofs.lemmas.List.Elements.{All-from_recursion}
use Rattle.std.proofs.lemmas.List.Splits.{length-slice_split, slice_split_at, slice_split_none}
use Rattle.msi_base.proofs.BoolLemmas.{by_test}
use Rattle.msi_base.proofs.ListLemmas.{all_joined, all_weaker, any_joined, none_pass, none_passes}
use Rattle.msi_exchange.specs.Characters.{is_control}
use Rattle.msi_exchange.specs.Fields.{fields, header_fields}
use Rattle.msi_exchange.specs.Writing.{tabbed}

-- a field without control characters
abbrev pub IsPlain : List ℕ → Type 0
IsPlain field = list_any is_control field ≡ false

abbrev pub is_tab : ℕ → Bool
is_tab b = eqb b 9

abbrev pub is_feed : ℕ → Bool
is_feed b = eqb b 10

no_tab_at : (b : ℕ) → is_control b ≡ false → is_tab b ≡ false
no_tab_at b e = let p = or_parts _ _ e in let q = or_parts _ _ p.1 in let r = or_parts _ _ q.1 in r.0

no_feed_at : (b : ℕ) → is_control b ≡ false → is_feed b ≡ false
no_feed_at b e =
    let p = or_parts (eqb b 0) _ e in
    let q = or_parts (eqb b 8) _ p.1 in
    let r = or_parts (eqb b 9) _ q.1 in
    let s = or_parts (eqb b 10) (eqb b 12 || eqb b 13) r.1 in
    s.0

no_tabs : (field : List ℕ) → IsPlain field → All (λ b. is_tab b ≡ false) field
no_tabs field h = All-from_recursion (λ b. is_tab b ≡ false) field (all_weaker (λ b. is_control b ≡ false) (λ b. is_tab b ≡ false) field no_tab_at (none_passes is_control field h))

no_feeds : (field : List ℕ) → IsPlain field → list_any is_feed field ≡ false
no_feeds field h = none_pass is_feed field (all_weaker (λ b. is_control b ≡ false) (λ b. is_feed b ≡ false) field no_feed_at (none_passes is_control field h))

-- ---- fields

pub fields_from : (f : List ℕ) (fs : List (List ℕ)) → AllByRecursion IsPlain (f ∷ fs) → fields (tabbed (f ∷ fs)) ≡ f ∷ fs
fields_from f [] h = ap (slice_split is_tab) (append-nil f) ∙ slice_split_none is_tab f (no_tabs f h.0)
fields_from f (g ∷ gs) h = slice_split_at is_tab f 9 (tabbed (g ∷ gs)) (no_tabs f h.0) refl ∙ ap (λ xs. f ∷ xs) (fields_from g gs h.1)

pub fields_back : (fs : List (List ℕ)) → 0 < length fs → AllByRecursion IsPlain fs → fields (tabbed fs) ≡ fs
fields_back [] l h = absurd (omega (arith, l))
fields_back (f ∷ fs) l h = fields_from f fs h

some_long : (line : List ℕ) → 0 < length line → header_fields line ≡ fields line
some_long line l = ap (λ e. cond e [] (fields line)) (by_test (eqb (length line) 0) (λ t. absurd (omega (arith, l, (Decides-eqb (length line) 0).0 t))) (λ f. f))

pub header_back : (fs : List (List ℕ)) → AllByRecursion (λ f. 0 < length f) fs → AllByRecursion IsPlain fs → header_fields (tabbed fs) ≡ fs
header_back [] some h = refl
header_back ([] ∷ fs) some h = absurd (omega (arith, some.0))
header_back ((b ∷ bs) ∷ fs) some h = some_long (tabbed ((b ∷ bs) ∷ fs)) (omega arith) ∙ fields_from (b ∷ bs) fs h

pub some_field : (line : List ℕ) → 0 < length (fields line)
some_field line = omega (arith, length-slice_split is_tab line)

-- ---- lines

behind_feedless : (fs : List (List ℕ)) → AllByRecursion IsPlain fs → list_any is_feed (flat_map (λ other. 9 ∷ other) fs) ≡ false
behind_feedless [] h = refl
behind_feedless (f ∷ fs) h = any_joined is_feed (9 ∷ f) (flat_map (λ other. 9 ∷ other) fs) (no_feeds f h.0) (behind_feedless fs h.1)

pub feedless : (fs : List (List ℕ)) → AllByRecursion IsPlain fs → list_any is_feed (tabbed fs) ≡ false
feedless [] h = refl
feedless (f ∷ fs) h = any_joined is_feed f (flat_map (λ other. 9 ∷ other) fs) (no_feeds f h.0) (behind_feedless fs h.1)

seam : (l : List ℕ) (x : ℕ) → get_or (l ++ x ∷ []) (length l) 0 ≡ x
seam [] x = refl
seam (y ∷ ys) x = seam ys x

stripped : (l : List ℕ) → strip_carriage_return (l ++ 13 ∷ []) ≡ l
stripped l =
    let n : length (l ++ 13 ∷ []) - 1 ≡ length l = omega (arith, length-append l (13 ∷ [])) in
    ap (λ k. cond (eqb (get_or (l ++ 13 ∷ []) k 0) 13) (take k (l ++ 13 ∷ [])) (l ++ 13 ∷ [])) n
    ∙ ap (λ b. cond (eqb b 13) (take (length l) (l ++ 13 ∷ [])) (l ++ 13 ∷ [])) (seam l 13)
    ∙ take-append_seam l (13 ∷ [])

parts_more : (x : List ℕ) (ps : List (List ℕ)) → 0 < length ps → lines_of_parts (x ∷ ps) ≡ strip_carriage_return x ∷ lines_of_parts ps
parts_more x [] l = absurd (omega (arith, l))
parts_more x (p ∷ ps) l = refl

ended_feedless : (l : List ℕ) → list_any is_feed l ≡ false → All (λ b. is_feed b ≡ false) (l ++ 13 ∷ [])
ended_feedless l h = All-from_recursion (λ b. is_feed b ≡ false) (l ++ 13 ∷ []) (all_joined (λ b. is_feed b ≡ false) l (13 ∷ []) (none_passes is_feed l h) (refl, tt))

regrouped : (l rest : List ℕ) → (l ++ 13 ∷ 10 ∷ []) ++ rest ≡ (l ++ 13 ∷ []) ++ 10 ∷ rest
regrouped l rest = append_assoc l (13 ∷ 10 ∷ []) rest ∙ sym (append_assoc l (13 ∷ []) (10 ∷ rest))

pub line_back : (l rest : List ℕ) → list_any is_feed l ≡ false → lines ((l ++ 13 ∷ 10 ∷ []) ++ rest) ≡ l ∷ lines rest
line_back l rest h =
    ap lines (regrouped l rest)
    ∙ (ap lines_of_parts (slice_split_at is_feed (l ++ 13 ∷ []) 10 rest (ended_feedless l h) refl)
    ∙ (parts_more (l ++ 13 ∷ []) (slice_split is_feed rest) (omega (arith, length-slice_split is_feed rest))
    ∙ ap (λ x. x ∷ lines rest) (stripped l)))
