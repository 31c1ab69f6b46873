-- Spellings can be read back.
use Rattle.std.proofs.Common.{◌≡◌, ℕ, ◌+◌, ◌/◌, ◌%◌, ◌<◌, ◌≤◌, ◌-◌, Bool, true, ◌&&◌, eqb, ◌∷◌, ◌++◌, [], List, length, refl, ap, sym, ◌∙◌, subst, arith, map, append_assoc, lit≤, ⊎_elim, chars, encode_utf8_all}
use Rattle.std.specs.Char.{digit_char, digit_value}
use Rattle.std.specs.Int.Digits.{digits_of, AllBelowBase}
use Rattle.std.specs.List.{enumerate_from, flat_map}
use Rattle.std.specs.Str.{IsUtf8}
use Rattle.std.proofs.lemmas.Bool.Decides.{nat_tests}
use Rattle.std.proofs.lemmas.Bool.{and_parts, cases_lt}
use Rattle.std.proofs.lemmas.List.Folds.{flat_map-map}
use Rattle.std.proofs.lemmas.Int.Digits.{all_below_base_digits_of, same_from_digits_of}
use Rattle.std.proofs.lemmas.Str.{digit_value-digit_char, encodes-chars}
use Rattle.msipkg_safe_names.specs.SafeNames.{SpellingsDiffer, escape, full_spelling, hexadecimal, is_name_of_device, is_plain, never_empty, safe_spelling, safe_spelling_at, spelled, stands, stands_anywhere}
use Rattle.msipkg_safe_names.proofs.SafeNamesLemmas.{by_test, escape_large, escape_small, spelled_begins}

-- ---- digits

same_digit : (d e : ℕ) → d < 16 → e < 16 → digit_char d ≡ digit_char e → d ≡ e
same_digit d e hd he same =
    let d36 : d < 36 = omega arith in
    let e36 : e < 36 = omega arith in
    sym (digit_value-digit_char d d36) ∙ (ap digit_value same ∙ digit_value-digit_char e e36)

digit_small : (d : ℕ) → d < 16 → digit_char d < 123
digit_small d h = grind (arith, nat_tests)

never : {P : Type 0} (d : ℕ) (k : ℕ) → d < 16 → 122 < k → digit_char d ≡ k → P
never d k h big e = let small = digit_small d h in absurd (omega arith)

same_digits : (ds es rest more : List ℕ) → AllBelowBase 16 ds → AllBelowBase 16 es → map digit_char ds ++ 125 ∷ rest ≡ map digit_char es ++ 125 ∷ more → (ds ≡ es) × (rest ≡ more)
same_digits [] [] rest more hd he e = (refl, cc)
same_digits [] (x ∷ es) rest more hd he e = let first : digit_char x ≡ 125 = cc in never x 125 he.0 (omega arith) first
same_digits (d ∷ ds) [] rest more hd he e = let first : digit_char d ≡ 125 = cc in never d 125 hd.0 (omega arith) first
same_digits (d ∷ ds) (x ∷ es) rest more hd he e =
    let first : digit_char d ≡ digit_char x = cc in
    let others : map digit_char ds ++ 125 ∷ rest ≡ map digit_char es ++ 125 ∷ more = cc in
    let same = same_digits ds es rest more hd.1 he.1 others in
    let digit = same_digit d x hd.0 he.0 first in
    (ap (λ y. y ∷ ds) digit ∙ ap (λ ys. x ∷ ys) same.0, same.1)

same_hexadecimal : (c d : ℕ) (rest more : List ℕ) → hexadecimal c ++ 125 ∷ rest ≡ hexadecimal d ++ 125 ∷ more → (c ≡ d) × (rest ≡ more)
unfolding hexadecimal
same_hexadecimal c d rest more e =
    let same = same_digits (digits_of 16 c) (digits_of 16 d) rest more (all_below_base_digits_of 16 c (lit≤ tt)) (all_below_base_digits_of 16 d (lit≤ tt)) e in
    (same_from_digits_of 16 c d (lit≤ tt) same.0, same.1)

-- ---- escapes

small_with : (c : ℕ) (rest : List ℕ) → c < 128 → escape c ++ rest ≡ 37 ∷ digit_char (c / 16) ∷ digit_char (c % 16) ∷ rest
small_with c rest h = ap (λ x. x ++ rest) (escape_small c h)

large_with : (c : ℕ) (rest : List ℕ) → 128 ≤ c → escape c ++ rest ≡ 37 ∷ 123 ∷ (hexadecimal c ++ 125 ∷ rest)
large_with c rest h = ap (λ x. x ++ rest) (escape_large c h) ∙ ap (λ x. 37 ∷ 123 ∷ x) (append_assoc (hexadecimal c) (125 ∷ []) rest)

both_small : (c d : ℕ) (rest more : List ℕ) → c < 128 → d < 128 → escape c ++ rest ≡ escape d ++ more → (c ≡ d) × (rest ≡ more)
both_small c d rest more hc hd e =
    let whole = sym (small_with c rest hc) ∙ (e ∙ small_with d more hd) in
    let first : digit_char (c / 16) ≡ digit_char (d / 16) = cc in
    let last : digit_char (c % 16) ≡ digit_char (d % 16) = cc in
    let c16 : c / 16 < 16 = omega arith in
    let d16 : d / 16 < 16 = omega arith in
    let cr : c % 16 < 16 = omega arith in
    let dr : d % 16 < 16 = omega arith in
    let high = same_digit (c / 16) (d / 16) c16 d16 first in
    let low = same_digit (c % 16) (d % 16) cr dr last in
    (omega arith, cc)

small_large : {P : Type 0} (c d : ℕ) (rest more : List ℕ) → c < 128 → 128 ≤ d → escape c ++ rest ≡ escape d ++ more → P
small_large c d rest more hc hd e =
    let whole = sym (small_with c rest hc) ∙ (e ∙ large_with d more hd) in
    let first : digit_char (c / 16) ≡ 123 = cc in
    let c16 : c / 16 < 16 = omega arith in
    never (c / 16) 123 c16 (omega arith) first

both_large : (c d : ℕ) (rest more : List ℕ) → 128 ≤ c → 128 ≤ d → escape c ++ rest ≡ escape d ++ more → (c ≡ d) × (rest ≡ more)
both_large c d rest more hc hd e =
    let whole = sym (large_with c rest hc) ∙ (e ∙ large_with d more hd) in
    let inner : hexadecimal c ++ 125 ∷ rest ≡ hexadecimal d ++ 125 ∷ more = cc in
    same_hexadecimal c d rest more inner

same_escape : (c d : ℕ) (rest more : List ℕ) → escape c ++ rest ≡ escape d ++ more → (c ≡ d) × (rest ≡ more)
same_escape c d rest more e =
    ⊎_elim (λ hc.
    ⊎_elim (λ hd. both_small c d rest more hc hd e) (λ hd. small_large c d rest more hc hd e) (cases_lt d 128))
    (λ hc.
    ⊎_elim (λ hd. small_large d c more rest hd hc (sym e)) (λ hd. both_large c d rest more hc hd e) (cases_lt d 128))
    (cases_lt c 128)

-- an escape begins with its sign, and goes on
pub escape_goes : (c : ℕ) → (next : ℕ) × (rest : List ℕ) × (escape c ≡ 37 ∷ next ∷ rest)
escape_goes c = ⊎_elim (λ small. (_, _, escape_small c small)) (λ large. (_, _, escape_large c large)) (cases_lt c 128)

pub no_sign : {P : Type 0} (c : ℕ) → is_plain c ≡ true → c ≡ 37 → P
no_sign c plain e = let bad : is_plain 37 ≡ true = subst (λ x. is_plain x ≡ true) e plain in cc

-- ---- a character after the other

pub same_spelled : (may will : Bool) (c d : ℕ) (rest more : List ℕ) → spelled may c ++ rest ≡ spelled will d ++ more → (c ≡ d) × (rest ≡ more)
same_spelled may will c d rest more e = by_test (is_plain c && may)
    (λ tc. by_test (is_plain d && will)
    (λ td. let whole : c ∷ rest ≡ d ∷ more = rw tc at (rw td at e) in (cc, cc))
    (λ fd.
    let goes = escape_goes d in
    let whole : c ∷ rest ≡ escape d ++ more = rw tc at (rw fd at e) in
    let signs : c ∷ rest ≡ 37 ∷ goes.0 ∷ (goes.1 ++ more) = whole ∙ ap (λ x. x ++ more) goes.2 in
    let sign : c ≡ 37 = cc in
    no_sign c (and_parts (is_plain c) may tc).0 sign))
    (λ fc. by_test (is_plain d && will)
    (λ td.
    let goes = escape_goes c in
    let whole : escape c ++ rest ≡ d ∷ more = rw fc at (rw td at e) in
    let signs : d ∷ more ≡ 37 ∷ goes.0 ∷ (goes.1 ++ rest) = sym whole ∙ ap (λ x. x ++ rest) goes.2 in
    let sign : d ≡ 37 = cc in
    no_sign d (and_parts (is_plain d) will td).0 sign)
    (λ fd. let whole : escape c ++ rest ≡ escape d ++ more = rw fc at (rw fd at e) in same_escape c d rest more whole))

-- a spelling is no sign alone
pub sign_alone : {P : Type 0} (may : Bool) (c : ℕ) (rest : List ℕ) → spelled may c ++ rest ≡ 37 ∷ [] → P
sign_alone may c rest e = by_test (is_plain c && may)
    (λ t. let whole : c ∷ rest ≡ 37 ∷ [] = rw t at e in let sign : c ≡ 37 = cc in no_sign c (and_parts (is_plain c) may t).0 sign)
    (λ f.
    let goes = escape_goes c in
    let whole : escape c ++ rest ≡ 37 ∷ [] = rw f at e in
    let signs : 37 ∷ goes.0 ∷ (goes.1 ++ rest) ≡ 37 ∷ [] = sym (ap (λ x. x ++ rest) goes.2) ∙ whole in
    cc)

-- characters, each with whether it may stand for itself
abbrev pub written : List (Bool × ℕ) → List ℕ
written ps = flat_map (λ p. spelled p.0 p.1) ps

same_written : (ps qs : List (Bool × ℕ)) → written ps ≡ written qs → map (λ (p : Bool × ℕ). p.1) ps ≡ map (λ (p : Bool × ℕ). p.1) qs
same_written [] [] e = refl
same_written [] (q ∷ qs) e =
    let b = spelled_begins q.0 q.1 in
    let bad : [] ≡ b.0 ∷ (b.1 ++ written qs) = e ∙ ap (λ s. s ++ written qs) b.2 in
    cc
same_written (p ∷ ps) [] e =
    let b = spelled_begins p.0 p.1 in
    let bad : b.0 ∷ (b.1 ++ written ps) ≡ [] = sym (ap (λ s. s ++ written ps) b.2) ∙ e in
    cc
same_written (p ∷ ps) (q ∷ qs) e =
    let same = same_spelled p.0 q.0 p.1 q.1 (written ps) (written qs) e in
    ap (λ c. c ∷ map (λ (p : Bool × ℕ). p.1) ps) same.0 ∙ ap (λ cs. q.1 ∷ cs) (same_written ps qs same.1)

pub stays : (may : Bool) (c : ℕ) (rest : List ℕ) → never_empty (spelled may c ++ rest) ≡ spelled may c ++ rest
stays may c rest = let b = spelled_begins may c in subst (λ s. never_empty (s ++ rest) ≡ s ++ rest) (sym b.2) refl

same_named : (ps qs : List (Bool × ℕ)) → never_empty (written ps) ≡ never_empty (written qs) → written ps ≡ written qs
same_named [] [] e = refl
same_named [] (q ∷ qs) e = sign_alone q.0 q.1 (written qs) (sym (e ∙ stays q.0 q.1 (written qs)))
same_named (p ∷ ps) [] e = sign_alone p.0 p.1 (written ps) (sym (stays p.0 p.1 (written ps)) ∙ e)
same_named (p ∷ ps) (q ∷ qs) e = sym (stays p.0 p.1 (written ps)) ∙ (e ∙ stays q.0 q.1 (written qs))

-- ---- names

characters_of : (f : ℕ → ℕ → Bool) (n : ℕ) (cs : List ℕ) → map (λ (p : Bool × ℕ). p.1) (map (λ (p : ℕ × ℕ). (f p.0 p.1, p.1)) (enumerate_from n cs)) ≡ cs
characters_of f n [] = refl
characters_of f n (c ∷ cs) = ap (λ others. c ∷ others) (characters_of f (n + 1) cs)

-- the spelling is that of the name's characters
abbrev pub Spells : (name spelling : List ℕ) → Type 0
Spells name spelling = (ps : List (Bool × ℕ)) × (spelling ≡ never_empty (written ps)) × (map (λ (p : Bool × ℕ). p.1) ps ≡ chars name)

pub safe_written : (name : List ℕ) → Spells name (safe_spelling name)
unfolding safe_spelling safe_spelling_at
safe_written name =
    let f : ℕ → ℕ → Bool = λ place c. stands c (eqb place 0) (eqb place (length (chars name) - 1)) (is_name_of_device name) in (
      map (λ (p : ℕ × ℕ). (f p.0 p.1, p.1)) (enumerate_from 0 (chars name)),
      ap never_empty (sym (flat_map-map (λ (p : Bool × ℕ). spelled p.0 p.1) (λ (p : ℕ × ℕ). (f p.0 p.1, p.1)) (enumerate_from 0 (chars name)))),
      characters_of f 0 (chars name),
    )

-- the characters of a full spelling
abbrev pub fully : List ℕ → List (Bool × ℕ)
fully cs = map (λ (c : ℕ). (stands_anywhere c, c)) cs

pub full_is : (name : List ℕ) → full_spelling name ≡ never_empty (written (fully (chars name)))
unfolding full_spelling
full_is name = ap never_empty (sym (flat_map-map (λ (p : Bool × ℕ). spelled p.0 p.1) (λ (c : ℕ). (stands_anywhere c, c)) (chars name)))

characters_fully : (cs : List ℕ) → map (λ (p : Bool × ℕ). p.1) (fully cs) ≡ cs
characters_fully [] = refl
characters_fully (c ∷ cs) = ap (λ others. c ∷ others) (characters_fully cs)

pub full_written : (name : List ℕ) → Spells name (full_spelling name)
full_written name = (fully (chars name), full_is name, characters_fully (chars name))

pub same_name : (one other : List ℕ) → IsUtf8 one → IsUtf8 other → chars one ≡ chars other → one ≡ other
same_name one other u v characters = sym (encodes-chars one u) ∙ (ap encode_utf8_all characters ∙ encodes-chars other v)

read_back : (one other spelling last : List ℕ) → IsUtf8 one → IsUtf8 other → Spells one spelling → Spells other last → spelling ≡ last → one ≡ other
read_back one other spelling last u v p q e =
    let same = same_written p.0 q.0 (same_named p.0 q.0 (sym p.1 ∙ (e ∙ q.1))) in
    same_name one other u v (sym p.2 ∙ (same ∙ q.2))

pub spellings_differ : SpellingsDiffer
spellings_differ = record {
  safe = λ one other u v e. read_back one other (safe_spelling one) (safe_spelling other) u v (safe_written one) (safe_written other) e;
  full = λ one other u v e. read_back one other (full_spelling one) (full_spelling other) u v (full_written one) (full_written other) e;
  mixed = λ one other u v e. read_back one other (safe_spelling one) (full_spelling other) u v (safe_written one) (full_written other) e;
}
