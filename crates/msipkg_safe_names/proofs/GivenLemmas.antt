-- Names that are given out one after the other are different files, also where case is ignored.
use Rattle.std.proofs.Common.{◌≡◌, ℕ, ◌/◌, ◌%◌, ◌<◌, Bool, true, false, ◌&&◌, ◌||◌, ◌∷◌, ◌++◌, [], List, refl, ap, sym, ◌∙◌, subst, arith, map, lit≤, ⊎_elim, chars}
use Rattle.std.specs.Char.{digit_char, to_ascii_lowercase}
use Rattle.std.specs.Int.Digits.{digits_of, AllBelowBase}
use Rattle.std.specs.List.{AllByRecursion, IsDistinct, list_any}
use Rattle.std.specs.Str.{IsUtf8, bytes_eq, str_eq_ignore_ascii_case, str_to_ascii_lowercase}
use Rattle.std.proofs.lemmas.Bool.Decides.{nat_tests}
use Rattle.std.proofs.lemmas.Bool.{and_parts, cases_lt, false≢true}
use Rattle.std.proofs.lemmas.Int.Digits.{all_below_base_digits_of}
use Rattle.std.proofs.lemmas.List.{map-append}
use Rattle.std.proofs.lemmas.Slice.Eq.{bytes_eq-Decides}
use Rattle.msipkg_safe_names.specs.SafeNames.{FilesDiffer, GivenInTurn, Takes, escape, full_spelling, given_name, hexadecimal, is_plain, is_taken, never_empty, safe_spelling, spelled, stands_anywhere}
use Rattle.msipkg_safe_names.proofs.SafeNamesLemmas.{by_test, escape_large, escape_small, spelled_begins}
use Rattle.msipkg_safe_names.proofs.SpellingLemmas.{Spells, escape_goes, full_is, full_written, fully, no_sign, safe_written, same_name, same_spelled, sign_alone, stays, written}

-- ---- escapes have small letters

lowered_digit : (d : ℕ) → d < 16 → to_ascii_lowercase (digit_char d) ≡ digit_char d
lowered_digit d h = grind (arith, nat_tests)

lowered_digits : (ds : List ℕ) → AllBelowBase 16 ds → str_to_ascii_lowercase (map digit_char ds) ≡ map digit_char ds
lowered_digits [] below = refl
lowered_digits (d ∷ ds) below = ap (λ c. c ∷ str_to_ascii_lowercase (map digit_char ds)) (lowered_digit d below.0) ∙ ap (λ cs. digit_char d ∷ cs) (lowered_digits ds below.1)

lowered_hexadecimal : (n : ℕ) → str_to_ascii_lowercase (hexadecimal n) ≡ hexadecimal n
unfolding hexadecimal
lowered_hexadecimal n = lowered_digits (digits_of 16 n) (all_below_base_digits_of 16 n (lit≤ tt))

lowered_escape : (c : ℕ) → str_to_ascii_lowercase (escape c) ≡ escape c
lowered_escape c = ⊎_elim
    (λ small.
    let first : c / 16 < 16 = omega arith in
    let last : c % 16 < 16 = omega arith in
    subst (λ s. str_to_ascii_lowercase s ≡ s) (sym (escape_small c small))
    (ap (λ x. 37 ∷ x ∷ to_ascii_lowercase (digit_char (c % 16)) ∷ []) (lowered_digit (c / 16) first) ∙ ap (λ x. 37 ∷ digit_char (c / 16) ∷ x ∷ []) (lowered_digit (c % 16) last)))
    (λ large.
    subst (λ s. str_to_ascii_lowercase s ≡ s) (sym (escape_large c large))
    (ap (λ s. 37 ∷ 123 ∷ s) (map-append to_ascii_lowercase (hexadecimal c) (125 ∷ []) ∙ ap (λ s. s ++ 125 ∷ []) (lowered_hexadecimal c))))
    (cases_lt c 128)

lowered_escaped : (may : Bool) (c : ℕ) → (is_plain c && may) ≡ false → str_to_ascii_lowercase (spelled may c) ≡ spelled may c
lowered_escaped may c f = rw f (lowered_escape c)

-- ---- what has small letters, and stands in a full spelling

same_sign : (c d : ℕ) → stands_anywhere d ≡ true → to_ascii_lowercase c ≡ d → c ≡ d
same_sign c d stands e = grind (arith, nat_tests)

lowered_fully : (c : ℕ) → str_to_ascii_lowercase (spelled (stands_anywhere c) c) ≡ spelled (stands_anywhere c) c
lowered_fully c = by_test (is_plain c && stands_anywhere c)
    (λ t. let stands = (and_parts (is_plain c) (stands_anywhere c) t).1 in rw t (ap (λ x. x ∷ []) (lowered_sign c stands)))
    (λ f. lowered_escaped (stands_anywhere c) c f)
  where
    lowered_sign : (d : ℕ) → stands_anywhere d ≡ true → to_ascii_lowercase d ≡ d
    lowered_sign d stands = grind (arith, nat_tests)

-- no plain character is the sign of an escape, in whatever case
no_lowered_sign : {P : Type 0} (c : ℕ) → is_plain c ≡ true → to_ascii_lowercase c ≡ 37 → P
no_lowered_sign c plain e = no_sign c plain (same_sign c 37 refl e)

same_lowered : (may : Bool) (c d : ℕ) (rest more : List ℕ) → str_to_ascii_lowercase (spelled may c) ++ rest ≡ spelled (stands_anywhere d) d ++ more → (c ≡ d) × (rest ≡ more)
same_lowered may c d rest more e = by_test (is_plain c && may)
    (λ tc. by_test (is_plain d && stands_anywhere d)
    (λ td.
    let whole : to_ascii_lowercase c ∷ rest ≡ d ∷ more = rw tc at (rw td at e) in
    let first : to_ascii_lowercase c ≡ d = cc in
    (same_sign c d (and_parts (is_plain d) (stands_anywhere d) td).1 first, cc))
    (λ fd.
    let whole : to_ascii_lowercase c ∷ rest ≡ escape d ++ more = rw tc at (rw fd at e) in
    let goes = escape_goes d in
    let signs : to_ascii_lowercase c ∷ rest ≡ 37 ∷ goes.0 ∷ (goes.1 ++ more) = whole ∙ ap (λ x. x ++ more) goes.2 in
    let sign : to_ascii_lowercase c ≡ 37 = cc in
    no_lowered_sign c (and_parts (is_plain c) may tc).0 sign))
    (λ fc. same_spelled may (stands_anywhere d) c d rest more (ap (λ s. s ++ rest) (sym (lowered_escaped may c fc)) ∙ e))

lowered_sign_alone : {P : Type 0} (may : Bool) (c : ℕ) (rest : List ℕ) → str_to_ascii_lowercase (spelled may c) ++ rest ≡ 37 ∷ [] → P
lowered_sign_alone may c rest e = by_test (is_plain c && may)
    (λ t.
    let whole : to_ascii_lowercase c ∷ rest ≡ 37 ∷ [] = rw t at e in
    let sign : to_ascii_lowercase c ≡ 37 = cc in
    no_lowered_sign c (and_parts (is_plain c) may t).0 sign)
    (λ f. sign_alone may c rest (ap (λ s. s ++ rest) (sym (lowered_escaped may c f)) ∙ e))

-- ---- a character after the other

lowered_pieces : (p : Bool × ℕ) (ps : List (Bool × ℕ)) → str_to_ascii_lowercase (written (p ∷ ps)) ≡ str_to_ascii_lowercase (spelled p.0 p.1) ++ str_to_ascii_lowercase (written ps)
lowered_pieces p ps = map-append to_ascii_lowercase (spelled p.0 p.1) (written ps)

lowered_fully_all : (cs : List ℕ) → str_to_ascii_lowercase (written (fully cs)) ≡ written (fully cs)
lowered_fully_all [] = refl
lowered_fully_all (c ∷ cs) =
    lowered_pieces (stands_anywhere c, c) (fully cs)
    ∙ (ap (λ s. s ++ str_to_ascii_lowercase (written (fully cs))) (lowered_fully c) ∙ ap (λ s. spelled (stands_anywhere c) c ++ s) (lowered_fully_all cs))

lowered_written : (ps : List (Bool × ℕ)) (cs : List ℕ) → str_to_ascii_lowercase (written ps) ≡ written (fully cs) → map (λ (p : Bool × ℕ). p.1) ps ≡ cs
lowered_written [] [] e = refl
lowered_written [] (c ∷ cs) e =
    let b = spelled_begins (stands_anywhere c) c in
    let bad : [] ≡ b.0 ∷ (b.1 ++ written (fully cs)) = e ∙ ap (λ s. s ++ written (fully cs)) b.2 in
    cc
lowered_written (p ∷ ps) [] e =
    let b = spelled_begins p.0 p.1 in
    let bad : to_ascii_lowercase b.0 ∷ str_to_ascii_lowercase (b.1 ++ written ps) ≡ [] = sym (ap (λ s. str_to_ascii_lowercase (s ++ written ps)) b.2) ∙ e in
    cc
lowered_written (p ∷ ps) (c ∷ cs) e =
    let same = same_lowered p.0 p.1 c (str_to_ascii_lowercase (written ps)) (written (fully cs)) (sym (lowered_pieces p ps) ∙ e) in
    ap (λ d. d ∷ map (λ (p : Bool × ℕ). p.1) ps) same.0 ∙ ap (λ ds. c ∷ ds) (lowered_written ps cs same.1)

lowered_named : (ps : List (Bool × ℕ)) (cs : List ℕ) → str_to_ascii_lowercase (never_empty (written ps)) ≡ never_empty (written (fully cs)) → str_to_ascii_lowercase (written ps) ≡ written (fully cs)
lowered_named [] [] e = refl
lowered_named [] (c ∷ cs) e = sign_alone (stands_anywhere c) c (written (fully cs)) (sym (e ∙ stays (stands_anywhere c) c (written (fully cs))))
lowered_named (p ∷ ps) [] e =
    let whole = ap str_to_ascii_lowercase (sym (stays p.0 p.1 (written ps))) ∙ e in
    lowered_sign_alone p.0 p.1 (str_to_ascii_lowercase (written ps)) (sym (lowered_pieces p ps) ∙ whole)
lowered_named (p ∷ ps) (c ∷ cs) e =
    ap str_to_ascii_lowercase (sym (stays p.0 p.1 (written ps))) ∙ (e ∙ stays (stands_anywhere c) c (written (fully cs)))

lowered_never_empty : (cs : List ℕ) → str_to_ascii_lowercase cs ≡ cs → str_to_ascii_lowercase (never_empty cs) ≡ never_empty cs
lowered_never_empty [] e = refl
lowered_never_empty (c ∷ cs) e = e

lowered_full_spelling : (name : List ℕ) → str_to_ascii_lowercase (full_spelling name) ≡ full_spelling name
lowered_full_spelling name =
    subst (λ s. str_to_ascii_lowercase s ≡ s) (sym (full_is name)) (lowered_never_empty (written (fully (chars name))) (lowered_fully_all (chars name)))

-- a spelling of a name is the full spelling of no other name, in whatever case
full_of_none : (one other spelling : List ℕ) → IsUtf8 one → IsUtf8 other → Spells one spelling → str_to_ascii_lowercase spelling ≡ str_to_ascii_lowercase (full_spelling other) → one ≡ other
full_of_none one other spelling u v p e =
    let small : str_to_ascii_lowercase (never_empty (written p.0)) ≡ never_empty (written (fully (chars other))) =
    ap str_to_ascii_lowercase (sym p.1) ∙ (e ∙ (lowered_full_spelling other ∙ full_is other)) in
    same_name one other u v (sym p.2 ∙ lowered_written p.0 (chars other) (lowered_named p.0 (chars other) small))

-- ---- names given out in turn

given_spells : (taken : List (List ℕ)) (name : List ℕ) → Spells name (given_name taken name)
given_spells taken name = by_test (is_taken taken (safe_spelling name)) (λ t. rw t (full_written name)) (λ f. rw f (safe_written name))

same_taken : (taken : List (List ℕ)) (one other : List ℕ) → str_to_ascii_lowercase one ≡ str_to_ascii_lowercase other → is_taken taken one ≡ is_taken taken other
same_taken taken one other e = ap (λ bytes. list_any (bytes_eq bytes) taken) e

-- a file that is taken isn't the next one
next_differs : (taken : List (List ℕ)) (one file other : List ℕ) → IsUtf8 one → IsUtf8 other → Spells one file → bytes_eq one other ≡ false → is_taken taken file ≡ true
    → str_eq_ignore_ascii_case file (given_name taken other) ≡ false
next_differs taken one file other u v spells differ there = by_test (str_eq_ignore_ascii_case file (given_name taken other))
    (λ same.
    let small = (bytes_eq-Decides (str_to_ascii_lowercase file) (str_to_ascii_lowercase (given_name taken other))).0 same in
    by_test (is_taken taken (safe_spelling other))
    (λ t.
    let full : str_to_ascii_lowercase file ≡ str_to_ascii_lowercase (full_spelling other) = rw t at small in
    absurd (false≢true (sym differ ∙ (bytes_eq-Decides one other).1 (full_of_none one other file u v spells full))))
    (λ f.
    let safe : str_to_ascii_lowercase file ≡ str_to_ascii_lowercase (safe_spelling other) = rw f at small in
    absurd (false≢true (sym f ∙ (sym (same_taken taken file (safe_spelling other) safe) ∙ there)))))
    (λ differs. differs)

or_true : (b : Bool) → (b || true) ≡ true
or_true true = refl
or_true false = refl

-- what is taken stays taken, and what is given out is taken
stays_taken : (old new : List (List ℕ)) (name other : List ℕ) → Takes old new name → is_taken old other ≡ true → is_taken new other ≡ true
stays_taken old new name other takes there = takes other ∙ ap (λ b. b || str_eq_ignore_ascii_case name other) there

given_taken : (old new : List (List ℕ)) (name : List ℕ) → Takes old new name → is_taken new name ≡ true
given_taken old new name takes =
    let same = (bytes_eq-Decides (str_to_ascii_lowercase name) (str_to_ascii_lowercase name)).1 refl in
    takes name ∙ (ap (λ b. is_taken old name || b) same ∙ or_true (is_taken old name))

later_differ : (taken names files : List (List ℕ)) (one file : List ℕ) → IsUtf8 one → AllByRecursion IsUtf8 names → Spells one file → AllByRecursion (λ other. bytes_eq one other ≡ false) names → is_taken taken file ≡ true
    → GivenInTurn taken names files → AllByRecursion (λ later. str_eq_ignore_ascii_case file later ≡ false) files
later_differ taken [] [] one file u us spells differ there given = tt
later_differ taken [] (next ∷ files) one file u us spells differ there given = absurd given
later_differ taken (name ∷ names) [] one file u us spells differ there given = absurd given
later_differ taken (name ∷ names) (next ∷ files) one file u us spells differ there given = (
  ap (str_eq_ignore_ascii_case file) given.1 ∙ next_differs taken one file name u us.0 spells differ.0 there,
  later_differ given.0 names files one file u us.1 spells differ.1 (stays_taken taken given.0 next file given.2 there) given.3,
)

pub files_differ : FilesDiffer
unfolding IsDistinct
files_differ taken [] [] us distinct given = tt
files_differ taken [] (file ∷ files) us distinct given = absurd given
files_differ taken (name ∷ names) [] us distinct given = absurd given
files_differ taken (name ∷ names) (file ∷ files) us distinct given =
    let spells : Spells name file = subst (Spells name) (sym given.1) (given_spells taken name) in (
      later_differ given.0 names files name file us.0 us.1 spells distinct.0 (given_taken taken given.0 file given.2) given.3,
      files_differ given.0 names files us.1 distinct.1 given.3,
    )
