-- Numbers in decimal are read as they were written.
use Rattle.std.proofs.Common.{◌≡◌, ℕ, ℤ, pos, negsuc, neg_ℤ, suc, ◌^◌, ◌<◌, Bool, true, false, ◌&&◌, List, [], ◌∷◌, Option, Some, None, Result, Ok, Err, refl, sym, ap, ◌∙◌, arith, cond, eqb, ltb, map, drop, length, int_le, w32}
use Rattle.std.specs.Bool.{Decides}
use Rattle.std.specs.Char.{digit_value, is_ascii_digit}
use Rattle.std.specs.Fmt.{decimal, signed_decimal}
use Rattle.std.specs.Int.RustNames.{FitsSigned}
use Rattle.std.specs.Int.Signed.{mag}
use Rattle.std.specs.List.{list_all, list_any}
use Rattle.std.specs.Result.{OkIff}
use Rattle.std.specs.Str.Parse.{AllDigits, IsNumeral, digits_value, signed_digits_value, without_leading_plus, without_leading_sign}
use Rattle.std.proofs.lemmas.Bool.{and_parts, or_from}
use Rattle.std.proofs.lemmas.Bool.Decides.{Decides-and, Decides-at, Decides-ltb, nat_tests}
use Rattle.std.proofs.lemmas.Fmt.{decimal_is_IsNumeral, parse-decimal, parse-signed_decimal}
use Rattle.std.proofs.lemmas.Int.{ints}
use Rattle.msi_table_values.specs.Numerals.{is_number_within, is_numeral, u16_in}
use Rattle.msi_base.proofs.BoolLemmas.{by_test}
use Rattle.msi_exchange.specs.Characters.{is_control, swapped}
use Rattle.msi_exchange.specs.Fields.{number_in}
use Rattle.msi_exchange.proofs.CharacterLemmas.{by_character, digit_plain, digit_stays}

-- ---- tests of numerals

digit_decides : (c : ℕ) → Decides (is_ascii_digit c) (digit_value c < 10)
digit_decides c = (λ h. grind (arith, nat_tests), λ h. grind (arith, nat_tests))

digits_decide : (ds : List ℕ) → Decides (list_all is_ascii_digit ds) (AllDigits 10 ds)
digits_decide [] = (λ _. tt, λ _. refl)
digits_decide (c ∷ cs) = Decides-and _ _ (digit_decides c) (digits_decide cs)

numeral_decides : (ds : List ℕ) → Decides (is_numeral ds) (IsNumeral 10 ds)
numeral_decides ds = Decides-and _ _ (Decides-ltb 0 (length ds)) (digits_decide ds)

fits32 : (z : ℤ) → Decides (int_le (neg_ℤ (pos 2147483648)) z && int_le z (pos 2147483647)) (FitsSigned w32 z)
fits32 z = (λ h. grind (arith, ints), λ h. grind (arith, ints))

and_assoc : (a b d : Bool) → ((a && b) && d) ≡ (a && (b && d))
and_assoc true b d = refl
and_assoc false b d = refl

pub number_decides : (text : List ℕ) → Decides (is_number_within (neg_ℤ (pos 2147483648)) (pos 2147483647) text) (IsNumeral 10 (without_leading_sign text) × FitsSigned w32 (signed_digits_value 10 text))
number_decides text = Decides-at _ _
    (and_assoc (is_numeral (without_leading_sign text)) (int_le (neg_ℤ (pos 2147483648)) (signed_digits_value 10 text)) (int_le (signed_digits_value 10 text) (pos 2147483647)))
    (Decides-and _ _ (numeral_decides (without_leading_sign text)) (fits32 (signed_digits_value 10 text)))

pub u16_decides : (text : List ℕ) → Decides (is_numeral (without_leading_plus text) && ltb (digits_value 10 (without_leading_plus text)) (2 ^ 16)) (IsNumeral 10 (without_leading_plus text) × (digits_value 10 (without_leading_plus text) < 2 ^ 16))
u16_decides text = Decides-and _ _ (numeral_decides (without_leading_plus text)) (Decides-ltb (digits_value 10 (without_leading_plus text)) (2 ^ 16))

-- ---- what a call that parses tells

pub parsed_ok : {T E : Type 0} {P : Type 0} (r : Result T E) (test : Bool) (v x : T) → Decides test P → OkIff r P v → r ≡ Ok x → cond test (Some v) None ≡ Some x
parsed_ok (Ok y) test v x d h e = ap (λ b. cond b (Some v) None) (d.1 h.0) ∙ (let k : y ≡ v = h.1 in cc)
parsed_ok (Err y) test v x d h e = absurd cc

pub parsed_err : {T E : Type 0} {P : Type 0} (r : Result T E) (test : Bool) (v : T) (y : E) → Decides test P → OkIff r P v → r ≡ Err y → cond test (Some v) None ≡ None
parsed_err (Ok x) test v y d h e = absurd cc
parsed_err (Err x) true v y d h e = absurd (h (d.0 refl))
parsed_err (Err x) false v y d h e = refl

-- a number that every call of this kind reads
told : {T : Type 0} {P : Type 0} (test : Bool) (v z : T) → Decides test P → ((r : Result T (Unit {0})) → OkIff r P v → r ≡ Ok z) → cond test (Some v) None ≡ Some z
told true v z d h = let e = h (Ok v) (d.0 refl, refl) in cc
told false v z d h = let e = h (Err tt) (λ p. let t : false ≡ true = d.1 p in cc) in absurd cc

pub small : (z : ℤ) → FitsSigned w32 z → mag z < 2 ^ 63
small (pos n) fits = omega (arith, ints)
small (negsuc n) fits = omega (arith, ints)

pub number_back : (z : ℤ) → FitsSigned w32 z → number_in (signed_decimal z) ≡ Some z
number_back z fits = told _ (signed_digits_value 10 (signed_decimal z)) z (number_decides (signed_decimal z)) (λ r h. parse-signed_decimal w32 z (signed_decimal z) r fits (small z fits) refl h)

pub u16_back : (n : ℕ) → n < 2 ^ 16 → u16_in (decimal n) ≡ Some n
u16_back n l = told _ (digits_value 10 (without_leading_plus (decimal n))) n (u16_decides (decimal n)) (λ r h. parse-decimal 16 n (decimal n) r l (omega (arith, l)) refl h)

pub within : (n : ℤ) → (int_le (neg_ℤ (pos 2147483648)) n && int_le n (pos 2147483647)) ≡ true → FitsSigned w32 n
within n e = (fits32 n).0 e

-- ---- digits have no control characters

pub digits_plain : (ds : List ℕ) → list_all is_ascii_digit ds ≡ true → (list_any is_control ds ≡ false) × (map swapped ds ≡ ds)
digits_plain [] e = (refl, refl)
digits_plain (d ∷ ds) e =
    let p = and_parts (is_ascii_digit d) (list_all is_ascii_digit ds) e in
    let first = digit_plain d p.0 in
    let rest = digits_plain ds p.1 in
    (or_from (is_control d) (list_any is_control ds) first.0 rest.0, ap (λ x. x ∷ map swapped ds) first.1 ∙ ap (λ xs. d ∷ xs) rest.1)

decimal_digits : (n : ℕ) → n < 2 ^ 64 → (0 < length (decimal n)) × (list_all is_ascii_digit (decimal n) ≡ true)
decimal_digits n l = let h = (decimal_is_IsNumeral n l).0 in (h.0, (digits_decide (decimal n)).1 h.1)

pub decimal_plain : (n : ℕ) → n < 2 ^ 64 → list_any is_control (decimal n) ≡ false
decimal_plain n l = (digits_plain (decimal n) (decimal_digits n l).1).0

pub signed_plain : (z : ℤ) → FitsSigned w32 z → list_any is_control (signed_decimal z) ≡ false
signed_plain (pos n) fits = decimal_plain n (omega (arith, ints))
signed_plain (negsuc n) fits = decimal_plain (suc n) (omega (arith, ints))

pub signed_filled : (z : ℤ) → FitsSigned w32 z → 0 < length (signed_decimal z)
signed_filled (pos n) fits = (decimal_digits n (omega (arith, ints))).0
signed_filled (negsuc n) fits = omega arith

-- ---- a name is a numeral where its field is one

abbrev numeral_of : List ℕ → Option ℕ
numeral_of ds = cond (is_numeral ds && ltb (digits_value 10 ds) (2 ^ 16)) (Some (digits_value 10 ds)) None

not_all : (a b d : Bool) → b ≡ false → ((a && b) && d) ≡ false
not_all true b d e = rw e
not_all false b d e = refl

no_numeral : (ds : List ℕ) → list_all is_ascii_digit ds ≡ false → numeral_of ds ≡ None
no_numeral ds e = ap (λ b. cond b (Some (digits_value 10 ds)) None) (not_all (ltb 0 (length ds)) (list_all is_ascii_digit ds) (ltb (digits_value 10 ds) (2 ^ 16)) e)

digits_swapped : (ds : List ℕ) → list_all is_ascii_digit (map swapped ds) ≡ list_all is_ascii_digit ds
digits_swapped [] = refl
digits_swapped (d ∷ ds) = ap (λ b. b && list_all is_ascii_digit (map swapped ds)) (digit_stays d) ∙ ap (λ b. is_ascii_digit d && b) (digits_swapped ds)

numeral_swapped : (ds : List ℕ) → numeral_of (map swapped ds) ≡ numeral_of ds
numeral_swapped ds = by_test (list_all is_ascii_digit ds)
    (λ yes. ap numeral_of (digits_plain ds yes).1)
    (λ no. no_numeral (map swapped ds) (digits_swapped ds ∙ no) ∙ sym (no_numeral ds no))

plus_stays : (c : ℕ) → eqb (swapped c) 43 ≡ eqb c 43
plus_stays = by_character (λ c. eqb (swapped c) 43 ≡ eqb c 43) refl refl refl refl refl refl refl refl refl refl refl refl (λ c stays plain. ap (λ x. eqb x 43) stays)

dropped : (b : Bool) (c : ℕ) (cs : List ℕ) → drop (cond b 1 0) (map swapped (c ∷ cs)) ≡ map swapped (drop (cond b 1 0) (c ∷ cs))
dropped true c cs = refl
dropped false c cs = refl

unsigned_swapped : (text : List ℕ) → without_leading_plus (map swapped text) ≡ map swapped (without_leading_plus text)
unsigned_swapped [] = refl
unsigned_swapped (c ∷ cs) = ap (λ b. drop (cond b 1 0) (map swapped (c ∷ cs))) (plus_stays c) ∙ dropped (eqb c 43) c cs

pub u16_swapped : (text : List ℕ) → u16_in (map swapped text) ≡ u16_in text
u16_swapped text = ap numeral_of (unsigned_swapped text) ∙ numeral_swapped (without_leading_plus text)

pub u16_below : (text : List ℕ) (n : ℕ) → u16_in text ≡ Some n → n < 2 ^ 16
u16_below text n e = below (is_numeral (without_leading_plus text)) (digits_value 10 (without_leading_plus text)) (ltb (digits_value 10 (without_leading_plus text)) (2 ^ 16)) (λ t. (Decides-ltb (digits_value 10 (without_leading_plus text)) (2 ^ 16)).0 t) e
  where
    below : (a : Bool) (v : ℕ) (b : Bool) → (b ≡ true → v < 2 ^ 16) → cond (a && b) (Some v) None ≡ Some n → n < 2 ^ 16
    below true v true h e = let k : v ≡ n = cc in omega (arith, h refl, k)
    below true v false h e = absurd cc
    below false v b h e = absurd cc
