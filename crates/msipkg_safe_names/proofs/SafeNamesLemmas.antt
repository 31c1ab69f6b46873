-- How safe names are spelled, and that each spelling is a safe name.
use Rattle.std.proofs.Common.{◌≡◌, ◌≢◌, ℕ, ◌+◌, ◌-◌, ◌*◌, ◌/◌, ◌%◌, ◌^◌, ◌<◌, ◌≤◌, Bool, true, false, cond, ◌&&◌, eqb, ◌∷◌, ◌++◌, [], List, length, refl, ap, sym, ◌∙◌, subst, arith, map, append_assoc, append-nil, lit≤, lit<, ⊎_elim, chars, encode_utf8, unwrap_or, Result, Ok, Err, is_ok}
use Rattle.std.specs.Prelude.{OnOk, IfOk}
use Rattle.std.specs.Char.{digit_char}
use Rattle.std.specs.Int.Digits.{digits_of, AllBelowBase}
use Rattle.std.specs.List.{enumerate_from, flat_map, list_all}
use Rattle.std.proofs.Math.Nat.{div-div-eq-div-mul}
use Rattle.std.proofs.lemmas.Bool.Decides.{nat_tests}
use Rattle.std.proofs.lemmas.Bool.{and_parts, cases_lt, false≢true, le-ltb, lt-ltb}
use Rattle.std.proofs.lemmas.Grind.{flat_map-append}
use Rattle.std.proofs.lemmas.Int.Digits.{all_below_base_digits_of, digits_of_step}
use Rattle.std.proofs.lemmas.List.{map-append, map-id}
use Rattle.std.proofs.lemmas.List.Folds.{list_all-append}
use Rattle.std.proofs.lemmas.Nat.{pow-add}
use Rattle.std.proofs.lemmas.Str.{encode_ascii}
use Rattle.msipkg_safe_names.specs.SafeNames.{IsSafeName, StaysInside, escape, full_spelling, hexadecimal, is_name_of_device, is_plain, is_safe, never_empty, safe_spelling, safe_spelling_at, spelled, stands, stands_anywhere}

pub by_test : {P : Type 0} (b : Bool) → (b ≡ true → P) → (b ≡ false → P) → P
by_test true f g = f refl
by_test false f g = g refl

-- ---- what a call tells that appends

pub on_ok : {X E P Q : Type 0} (r : Result X E) → (P → Q) → OnOk r P → OnOk r Q
on_ok (Ok x) f p = f p
on_ok (Err e) f p = tt

pub when_pushed : {X E : Type 0} (r : Result X E) (before end new : List ℕ) (P : Type 0) → new ≡ cond (is_ok r) (before ++ end) before → (new ≡ before ++ end → P) → OnOk r P
when_pushed (Ok x) before end new P h f = f h
when_pushed (Err e) before end new P h f = tt

-- ---- digits

hexadecimal_step : (n : ℕ) → 0 < n → hexadecimal n ≡ hexadecimal (n / 16) ++ digit_char (n % 16) ∷ []
unfolding hexadecimal
hexadecimal_step n h = ap (map digit_char) (digits_of_step 16 n (lit≤ tt) h) ∙ map-append digit_char (digits_of 16 (n / 16)) (n % 16 ∷ [])

hexadecimal_none : hexadecimal 0 ≡ []
unfolding hexadecimal
hexadecimal_none = refl

-- one more digit
pushed : (n : ℕ) (old safe new : List ℕ) → 0 < n → safe ≡ old ++ hexadecimal (n / 16) → new ≡ safe ++ digit_char (n % 16) ∷ [] → new ≡ old ++ hexadecimal n
pushed n old safe new h s e =
    e
    ∙ (ap (λ x. x ++ digit_char (n % 16) ∷ []) s
    ∙ (append_assoc old (hexadecimal (n / 16)) (digit_char (n % 16) ∷ [])
    ∙ ap (λ x. old ++ x) (sym (hexadecimal_step n h))))

-- the digits in front of a place are those in front of the next, less the last
front : (number place : ℕ) → place < 8 → number / 2 ^ (36 - 4 * place) ≡ number / 2 ^ (32 - 4 * place) / 16
front number place h =
    let places : 36 - 4 * place ≡ 32 - 4 * place + 4 = omega arith in
    ap (λ k. number / 2 ^ k) places
    ∙ (ap (λ m. number / m) (pow-add 2 (32 - 4 * place) 4)
    ∙ sym (div-div-eq-div-mul number (2 ^ (32 - 4 * place)) 16))

next : (number place : ℕ) (old new : List ℕ) → place < 8 → new ≡ old ++ hexadecimal (number / 2 ^ (32 - 4 * place)) → new ≡ old ++ hexadecimal (number / 2 ^ (36 - 4 * (place + 1)))
next number place old new h e =
    let places : 32 - 4 * place ≡ 36 - 4 * (place + 1) = omega arith in
    subst (λ k. new ≡ old ++ hexadecimal (number / 2 ^ k)) places e

pub no_digit : (n : ℕ) (old : List ℕ) → n ≡ 0 → old ≡ old ++ hexadecimal n
no_digit n old e = sym (ap (λ m. old ++ hexadecimal m) e ∙ (ap (λ ds. old ++ ds) hexadecimal_none ∙ append-nil old))

pub digit_more : (number place : ℕ) (old safe new : List ℕ) → place < 8 → 0 < number / 2 ^ (32 - 4 * place) → safe ≡ old ++ hexadecimal (number / 2 ^ (36 - 4 * place))
    → new ≡ safe ++ digit_char (number / 2 ^ (32 - 4 * place) % 16) ∷ [] → new ≡ old ++ hexadecimal (number / 2 ^ (36 - 4 * (place + 1)))
digit_more number place old safe new h some s e =
    next number place old new h (pushed (number / 2 ^ (32 - 4 * place)) old safe new some (s ∙ ap (λ m. old ++ hexadecimal m) (front number place h)) e)

pub digit_none : (number place : ℕ) (old safe : List ℕ) → place < 8 → number / 2 ^ (32 - 4 * place) ≤ 0 → safe ≡ old ++ hexadecimal (number / 2 ^ (36 - 4 * place))
    → safe ≡ old ++ hexadecimal (number / 2 ^ (36 - 4 * (place + 1)))
digit_none number place old safe h none s =
    let n = number / 2 ^ (32 - 4 * place) in
    let zero : n ≡ 0 = omega arith in
    let less : n / 16 ≡ n = ap (λ m. m / 16) zero ∙ sym zero in
    next number place old safe h (s ∙ ap (λ m. old ++ hexadecimal m) (front number place h ∙ less))

pub digit_last : (number place : ℕ) (old safe new : List ℕ) → 0 < number → place ≡ 8 → safe ≡ old ++ hexadecimal (number / 2 ^ (36 - 4 * place))
    → new ≡ safe ++ digit_char (number % 16) ∷ [] → new ≡ old ++ hexadecimal number
digit_last number place old safe new some at s e =
    pushed number old safe new some (s ∙ ap (λ p. old ++ hexadecimal (number / 2 ^ (36 - 4 * p))) at) e

-- ---- escapes

pub escape_small : (c : ℕ) → c < 128 → escape c ≡ 37 ∷ digit_char (c / 16) ∷ digit_char (c % 16) ∷ []
unfolding escape
escape_small c h = rw (lt-ltb c 128 h) refl

pub escape_large : (c : ℕ) → 128 ≤ c → escape c ≡ 37 ∷ 123 ∷ (hexadecimal c ++ 125 ∷ [])
unfolding escape
escape_large c h = rw (le-ltb c 128 h) refl

one : (c : ℕ) (old new : List ℕ) → c < 128 → new ≡ old ++ encode_utf8 c → new ≡ old ++ c ∷ []
one c old new h e = e ∙ ap (λ bytes. old ++ bytes) (encode_ascii c h)

pub escaped_small : (c code : ℕ) (old a b new : List ℕ) → code ≡ c → code < 128 → a ≡ old ++ encode_utf8 37 → b ≡ a ++ digit_char (code / 16 % 16) ∷ [] → new ≡ b ++ digit_char (code % 16) ∷ [] → new ≡ old ++ escape c
escaped_small c code old a b new same h ea eb en =
    let first : code / 16 % 16 ≡ code / 16 = omega arith in
    let sign = one 37 old a (lit< tt) ea in
    subst (λ x. new ≡ old ++ escape x) same (rw (en, eb, sign, first, escape_small code h) (simp append_assoc))

pub escaped_large : (c code : ℕ) (old a b d new : List ℕ) → code ≡ c → 128 ≤ code → a ≡ old ++ encode_utf8 37 → b ≡ a ++ encode_utf8 123 → d ≡ b ++ hexadecimal code → new ≡ d ++ encode_utf8 125 → new ≡ old ++ escape c
escaped_large c code old a b d new same h ea eb ed en =
    let sign = one 37 old a (lit< tt) ea in
    let opens = one 123 a b (lit< tt) eb in
    let closes = one 125 d new (lit< tt) en in
    subst (λ x. new ≡ old ++ escape x) same (rw (closes, ed, opens, sign, escape_large code h) (simp append_assoc))

-- ---- a character, or its escape

plain_ascii : (c : ℕ) → is_plain c ≡ true → c < 128
plain_ascii c h = grind (arith, nat_tests)

plain_safe : (c : ℕ) → is_plain c ≡ true → is_safe c ≡ true
plain_safe c h = rw h refl

-- ---- one character after the other

pub one_more : {X : Type 0} (f : X → List ℕ) (xs : List X) (x : X) (safe new : List ℕ) → safe ≡ flat_map f xs → new ≡ safe ++ f x → new ≡ flat_map f (xs ++ x ∷ [])
one_more f xs x safe new s e =
    e ∙ (ap (λ front. front ++ f x) s ∙ sym (flat_map-append f xs (x ∷ []) ∙ ap (λ last. flat_map f xs ++ last) (append-nil (f x))))

pub placed_more : (name : List ℕ) (xs : List (ℕ × ℕ)) (place c last : ℕ) (is_device may : Bool) (safe new : List ℕ) → last ≡ length (chars name) - 1 → is_device ≡ is_name_of_device name
    → may ≡ stands c (eqb place 0) (eqb place last) is_device → safe ≡ flat_map (λ p. safe_spelling_at name p.0 p.1) xs → new ≡ safe ++ spelled may c
    → new ≡ flat_map (λ p. safe_spelling_at name p.0 p.1) (xs ++ (place, c) ∷ [])
unfolding safe_spelling_at
placed_more name xs place c last is_device may safe new l d m s e =
    let may_is : may ≡ stands c (eqb place 0) (eqb place (length (chars name) - 1)) (is_name_of_device name) =
    m ∙ (ap (λ k. stands c (eqb place 0) (eqb place k) is_device) l ∙ ap (λ b. stands c (eqb place 0) (eqb place (length (chars name) - 1)) b) d) in
    one_more (λ p. safe_spelling_at name p.0 p.1) xs (place, c) safe new s (e ∙ ap (λ b. safe ++ spelled b c) may_is)

-- ---- each spelling is a safe name

safe_digit : (d : ℕ) → d < 16 → is_safe (digit_char d) ≡ true
safe_digit d h = grind (arith, nat_tests)

safe_digits : (ds : List ℕ) → AllBelowBase 16 ds → list_all is_safe (map digit_char ds) ≡ true
safe_digits [] below = refl
safe_digits (d ∷ ds) below = rw (safe_digit d below.0, safe_digits ds below.1) refl

safe_hexadecimal : (n : ℕ) → list_all is_safe (hexadecimal n) ≡ true
unfolding hexadecimal
safe_hexadecimal n = safe_digits (digits_of 16 n) (all_below_base_digits_of 16 n (lit≤ tt))

-- an escape begins with its sign
escape_begins : (c : ℕ) → (rest : List ℕ) × (escape c ≡ 37 ∷ rest) × (list_all is_safe rest ≡ true)
escape_begins c =
    ⊎_elim (λ small.
    let first : c / 16 < 16 = omega arith in
    let last : c % 16 < 16 = omega arith in
    (_, escape_small c small, rw (safe_digit (c / 16) first, safe_digit (c % 16) last) refl))
    (λ large. (_, escape_large c large, rw (list_all-append is_safe (hexadecimal c) (125 ∷ []), safe_hexadecimal c) refl))
    (cases_lt c 128)

-- a spelling, by its first character and the rest
pub spelled_begins : (may : Bool) (c : ℕ) → (first : ℕ) × (rest : List ℕ) × (spelled may c ≡ first ∷ rest) × (list_all is_safe (first ∷ rest) ≡ true) × ((may ≡ true → c ≢ 46) → first ≢ 46)
spelled_begins may c = by_test (is_plain c && may)
    (λ t.
    let parts = and_parts (is_plain c) may t in
    (c, [], rw t refl, rw (plain_safe c parts.0) refl, λ undotted. undotted parts.1))
    (λ f.
    let e = escape_begins c in
    (37, e.0, rw f e.1, e.2, λ undotted is. absurd (omega arith)))

spelled_safe : (may : Bool) (c : ℕ) → list_all is_safe (spelled may c) ≡ true
spelled_safe may c = let b = spelled_begins may c in ap (list_all is_safe) b.2 ∙ b.3

begun : (first : ℕ) (rest more piece : List ℕ) → piece ≡ first ∷ rest → list_all is_safe (first ∷ rest) ≡ true → first ≢ 46 → list_all is_safe more ≡ true → StaysInside (piece ++ more)
begun first rest more piece e safe undotted others = subst (λ p. StaysInside (p ++ more)) (sym e) (record {
  bytes = list_all-append is_safe (first ∷ rest) more ∙ rw (safe, others) refl;
  begins = λ g. undotted (ap (λ o. unwrap_or o 0) g);
})

module _ {X : Type 0} (may : X → Bool) (character : X → ℕ) where
  all_safe : (xs : List X) → list_all is_safe (flat_map (λ x. spelled (may x) (character x)) xs) ≡ true
  all_safe [] = refl
  all_safe (x ∷ xs) =
      list_all-append is_safe (spelled (may x) (character x)) (flat_map (λ x. spelled (may x) (character x)) xs)
      ∙ rw (spelled_safe (may x) (character x), all_safe xs) refl

  inside : (xs : List X) → ((x : X) (rest : List X) → xs ≡ x ∷ rest → may x ≡ true → character x ≢ 46) → StaysInside (flat_map (λ x. spelled (may x) (character x)) xs)
  inside [] undotted = record { bytes = refl; begins = λ e. cc }
  inside (x ∷ xs) undotted =
      let b = spelled_begins (may x) (character x) in
      begun b.0 b.1 (flat_map (λ x. spelled (may x) (character x)) xs) (spelled (may x) (character x)) b.2 b.3 (b.4 (undotted x xs refl)) (all_safe xs)

first_place : (cs : List ℕ) (x : ℕ × ℕ) (rest : List (ℕ × ℕ)) → enumerate_from 0 cs ≡ x ∷ rest → x.0 ≡ 0
first_place [] x rest e = cc
first_place (c ∷ cs) x rest e = let same : x ≡ (0, c) = cc in ap (λ p. p.0) same

no_dot_first : (place c : ℕ) (is_last is_device : Bool) → place ≡ 0 → stands c (eqb place 0) is_last is_device ≡ true → c ≢ 46
no_dot_first place c is_last is_device at m is =
    false≢true (subst (λ x. stands x true is_last is_device ≡ true) is (subst (λ k. stands c (eqb k 0) is_last is_device ≡ true) at m))

no_dot_anywhere : (c : ℕ) → stands_anywhere c ≡ true → c ≢ 46
no_dot_anywhere c m is = false≢true (subst (λ x. stands_anywhere x ≡ true) is m)

pub safe_inside : (name : List ℕ) (xs : List (ℕ × ℕ)) (safe : List ℕ) → map (λ p. (p.0, p.1)) xs ≡ enumerate_from 0 (chars name) → safe ≡ flat_map (λ p. safe_spelling_at name p.0 p.1) xs → StaysInside safe
unfolding safe_spelling_at
safe_inside name xs safe all s =
    let same : xs ≡ enumerate_from 0 (chars name) = sym (map-id xs) ∙ all in
    subst StaysInside (sym s) (inside (λ p. stands p.1 (eqb p.0 0) (eqb p.0 (length (chars name) - 1)) (is_name_of_device name)) (λ p. p.1) xs
    (λ x rest e. no_dot_first x.0 x.1 (eqb x.0 (length (chars name) - 1)) (is_name_of_device name) (first_place (chars name) x rest (sym same ∙ e))))

pub spelled_inside : (xs safe : List ℕ) → safe ≡ flat_map (λ c. spelled (stands_anywhere c) c) xs → StaysInside safe
spelled_inside xs safe s = subst StaysInside (sym s) (inside stands_anywhere (λ c. c) xs (λ x rest e. no_dot_anywhere x))

-- ---- which name it is

pub safe_is : {E : Type 0} (r : Result (List ℕ) E) (name : List ℕ) (xs : List (ℕ × ℕ)) (safe : List ℕ) → map (λ p. (p.0, p.1)) xs ≡ enumerate_from 0 (chars name)
    → safe ≡ flat_map (λ p. safe_spelling_at name p.0 p.1) xs → IfOk r (λ named. named ≡ never_empty safe) → IfOk r (λ named. named ≡ safe_spelling name)
unfolding safe_spelling
safe_is r name xs safe all s =
    let same : xs ≡ enumerate_from 0 (chars name) = sym (map-id xs) ∙ all in
    subst (λ text. IfOk r (λ named. named ≡ never_empty text)) (s ∙ ap (flat_map (λ p. safe_spelling_at name p.0 p.1)) same)

pub spelled_is : {E : Type 0} (r : Result (List ℕ) E) (name xs safe : List ℕ) → map (λ c. c) xs ≡ chars name
    → safe ≡ flat_map (λ c. spelled (stands_anywhere c) c) xs → IfOk r (λ named. named ≡ never_empty safe) → IfOk r (λ named. named ≡ full_spelling name)
unfolding full_spelling
spelled_is r name xs safe all s =
    let same : xs ≡ chars name = sym (map-id xs) ∙ all in
    subst (λ text. IfOk r (λ named. named ≡ never_empty text)) (s ∙ ap (flat_map (λ c. spelled (stands_anywhere c) c)) same)

-- with an ending
pub with_ending : (name ending : List ℕ) → IsSafeName name → list_all is_safe ending ≡ true → IsSafeName (name ++ ending)
with_ending [] ending is safe = absurd (omega (arith, is.some))
with_ending (x ∷ xs) ending is safe = record {
  stays = record {
    bytes = list_all-append is_safe (x ∷ xs) ending ∙ rw (is.stays.bytes, safe) refl;
    begins = is.stays.begins;
  };
  some = omega arith;
}
