-- On the rules of categories.
use Rattle.std.proofs.Common.{ℕ, ◌+◌, ◌^◌, ◌<◌, ◌≡◌, Bool, Result, Ok, Err, List, [], ◌∷◌, length, refl, sym, arith, cond, true, false, not, ◌&&◌, is_ok, is_some, get_or, drop, take, Option, IsOk, eqb, leb, ◌≢◌, suc, nat_le, ◌≤◌, ◌-◌, ℤ, pos, neg_ℤ, ap, ◌∙◌, subst, Some, None, w16, w32, int_le}
use Rattle.std.specs.Bool.{Decides}
use Rattle.std.specs.Char.{digit_value, is_ascii_digit}
use Rattle.std.specs.Int.{is_in_range}
use Rattle.std.specs.Int.RustNames.{FitsSigned}
use Rattle.std.specs.List.{list_all, list_any, slice_split, suffix_len, before_last, after_last}
use Rattle.std.specs.Result.{OkIff}
use Rattle.std.specs.Str.{NoCharPasses}
use Rattle.std.specs.Str.Pattern.{RFindsChar}
use Rattle.std.specs.Str.Parse.{AllDigits, IsNumeral, ParsesSigned, ParsesUnsigned, digits_value, signed_digits_value, without_leading_plus, without_leading_sign}
use Rattle.std.proofs.lemmas.Bool.Decides.{Decides-and, Decides-ltb, nat_tests}
use Rattle.std.proofs.lemmas.Int.{ints}
use Rattle.std.proofs.lemmas.List.{get_or-drop, length-drop, take_all}
use Rattle.std.proofs.lemmas.List.Folds.{list_any_at}
use Rattle.std.proofs.lemmas.List.Sums.{suffix_len_is}
use Rattle.std.proofs.lemmas.Str.Pattern.{NoCharPasses-char}
use Rattle.uuid.specs.Text.{parsed, parsed_hyphenated}
use Rattle.msi_categories.specs.CategoryRules.{continues_name, is_braced_uuid, is_identifier, is_short_name, is_version, starts_name}
use Rattle.msi_categories.specs.Numerals.{is_number_within, is_numeral, u16_in}

-- ---- numbers

digit_decides : (c : ℕ) → Decides (is_ascii_digit c) (digit_value c < 10)
digit_decides c = (λ h. grind (arith, nat_tests), λ h. grind (arith, nat_tests))

digits_decide : (ds : List ℕ) → Decides (list_all is_ascii_digit ds) (AllDigits 10 ds)
digits_decide [] = (λ _. tt, λ _. refl)
digits_decide (c ∷ cs) = Decides-and _ _ (digit_decides c) (digits_decide cs)

numeral_decides : (ds : List ℕ) → Decides (is_numeral ds) (IsNumeral 10 ds)
numeral_decides ds = Decides-and _ _ (Decides-ltb 0 (length ds)) (digits_decide ds)

-- a call that is `Ok` just where P holds answers its test
answers : {T E : Type 0} {P : Type 0} (r : Result T E) (v : T) (test : Bool) → Decides test P → OkIff r P v → is_ok r ≡ test
answers (Ok x) v test d h = sym (d.1 h.0)
answers (Err e) v true d h = absurd (h (d.0 refl))
answers (Err e) v false d h = refl

fits16 : (z : ℤ) → Decides (int_le (neg_ℤ (pos 32768)) z && int_le z (pos 32767)) (FitsSigned w16 z)
fits16 z = (λ h. grind (arith, ints), λ h. grind (arith, ints))

fits32 : (z : ℤ) → Decides (int_le (neg_ℤ (pos 2147483648)) z && int_le z (pos 2147483647)) (FitsSigned w32 z)
fits32 z = (λ h. grind (arith, ints), λ h. grind (arith, ints))

and_assoc : (a b d : Bool) → (a && (b && d)) ≡ ((a && b) && d)
and_assoc true b d = refl
and_assoc false b d = refl

pub i16_answer : {E : Type 0} (text : List ℕ) (r : Result ℤ E) → ParsesSigned w16 10 text r → is_ok r ≡ is_number_within (neg_ℤ (pos 32768)) (pos 32767) text
i16_answer text r h = answers r _ _ (Decides-and _ _ (numeral_decides (without_leading_sign text)) (fits16 (signed_digits_value 10 text))) h
    ∙ and_assoc (is_numeral (without_leading_sign text)) (int_le (neg_ℤ (pos 32768)) (signed_digits_value 10 text)) (int_le (signed_digits_value 10 text) (pos 32767))

pub i32_answer : {E : Type 0} (text : List ℕ) (r : Result ℤ E) → ParsesSigned w32 10 text r → is_ok r ≡ is_number_within (neg_ℤ (pos 2147483648)) (pos 2147483647) text
i32_answer text r h = answers r _ _ (Decides-and _ _ (numeral_decides (without_leading_sign text)) (fits32 (signed_digits_value 10 text))) h
    ∙ and_assoc (is_numeral (without_leading_sign text)) (int_le (neg_ℤ (pos 2147483648)) (signed_digits_value 10 text)) (int_le (signed_digits_value 10 text) (pos 2147483647))

is_some-cond : {X : Type 0} (test : Bool) (x : X) → is_some (cond test (Some x) None) ≡ test
is_some-cond true x = refl
is_some-cond false x = refl

pub u16_answer : {E : Type 0} (text : List ℕ) (r : Result ℕ E) → ParsesUnsigned 16 10 text r → is_ok r ≡ is_some (u16_in text)
u16_answer text r h =
    answers r _ _ (Decides-and _ _ (numeral_decides (without_leading_plus text)) (Decides-ltb (digits_value 10 (without_leading_plus text)) (2 ^ 16))) h
    ∙ sym (is_some-cond _ (digits_value 10 (without_leading_plus text)))

-- ---- names

-- the bytes behind the first, as a pattern takes them
pub identifier_after_first : (text : List ℕ) (all : Bool) → all ≡ list_all continues_name (take (length text - 1) (drop 1 text)) → 0 < length text → starts_name (get_or text 0 0) ≡ true → all ≡ is_identifier text
identifier_after_first [] all e l h = absurd (omega arith)
identifier_after_first (c ∷ cs) all e l h =
    e ∙ ap (list_all continues_name) (take_all (length (c ∷ cs) - 1) cs (omega arith)) ∙ ap (λ b. b && list_all continues_name cs) (sym h)

-- ---- GUIDs

is_some-from_Ok : {T E X : Type 0} (r : Result T E) (o : Option X) → (IsOk r → (x : X) × (o ≡ Some x)) → ((x : X) × (o ≡ Some x) → IsOk r) → is_ok r ≡ is_some o
is_some-from_Ok (Ok a) (Some x) h k = refl
is_some-from_Ok (Ok a) None h k = let (x, e) = h refl in cc
is_some-from_Ok (Err a) (Some x) h k = k (x, refl)
is_some-from_Ok (Err a) None h k = refl

braces_first : {X : Type 0} (a b : Bool) (o : Option X) → is_some (cond ((true && a) && b) o None) ≡ (((true && a) && b) && is_some o)
braces_first true true o = refl
braces_first true false o = refl
braces_first false b o = refl

pub braced_answer : {E : Type 0} (text : List ℕ) (r : Result (List ℕ) E) → length text ≡ 38 → (IsOk r → (u : List ℕ) × (parsed text ≡ Some u)) → ((u : List ℕ) × (parsed text ≡ Some u) → IsOk r) → is_ok r ≡ is_braced_uuid text
braced_answer text r l h k =
    is_some-from_Ok r (parsed text) h k
    ∙ rw l (braces_first (eqb (get_or text 0 0) 123) (eqb (get_or text 37 0) 125) (parsed_hyphenated (take 36 (drop 1 text))))

-- ---- versions

pub version_few : (text : List ℕ) (count : ℕ) (all : Bool) → count ≡ length (slice_split (λ c. eqb c 46) text) → count ≤ 4
    → all ≡ list_all (λ part. is_some (u16_in part)) (slice_split (λ c. eqb c 46) text) → all ≡ is_version text
version_few text count all n few e = grind (arith, nat_tests)

pub version_many : (text : List ℕ) (count : ℕ) → count ≡ length (slice_split (λ c. eqb c 46) text) → 4 < count → leb count 4 ≡ is_version text
version_many text count n many = grind (arith, nat_tests)

-- ---- short names

-- every byte behind the last period differs from it
no_period : (end : List ℕ) (k : ℕ) → NoCharPasses (λ d. eqb d 46) end → k < length end → not (eqb (get_or end k 0) 46) ≡ true
no_period end k none l = let h = NoCharPasses-char 46 end k none (omega arith) l in grind (arith, nat_tests)

suffix_behind : (text : List ℕ) (i : ℕ) → NoCharPasses (λ d. eqb d 46) (drop (i + 1) text) → i < length text → get_or text i 0 ≡ 46 → suffix_len (λ c. not (eqb c 46)) text ≡ length text - (i + 1)
suffix_behind text i none l e =
    suffix_len_is (λ c. not (eqb c 46)) text (i + 1) 0 (omega arith)
    (λ k from to.
    let at : get_or (drop (i + 1) text) (k - (i + 1)) 0 ≡ get_or text k 0 = get_or-drop (i + 1) text (k - (i + 1)) 0 ∙ ap (λ n. get_or text n 0) (omega arith) in
    ap (λ c. not (eqb c 46)) (sym at) ∙ no_period (drop (i + 1) text) (k - (i + 1)) none (omega (arith, length-drop (i + 1) text)))
    (λ _. ap (λ n. not (eqb (get_or text n 0) 46)) (omega arith) ∙ ap (λ c. not (eqb c 46)) e)

no_period_none : (text : List ℕ) → ((k : ℕ) → k < length text → get_or text k 0 ≢ 46) → list_any (λ c. eqb c 46) text ≡ false
no_period_none [] h = refl
no_period_none (c ∷ cs) h =
    let rest : list_any (λ c. eqb c 46) cs ≡ false = no_period_none cs (λ k l. h (suc k) (omega arith)) in
    let first : c ≢ 46 = h 0 (omega arith) in
    grind (arith, nat_tests)

pub short_name_parts : (text front end : List ℕ) (i j : ℕ) (is_short : Bool) → RFindsChar 46 text (Some (i, j)) → front ≡ take i text → end ≡ drop j text → length end + j ≡ length text
    → is_short ≡ is_in_range 1 8 (length front) → (is_short && nat_le (length end) 3) ≡ is_short_name text
short_name_parts text front end i j is_short found f e l short =
    let next : j ≡ i + 1 = found.1.ends in
    let at : get_or text i 0 ≡ 46 = found.1.byte (omega arith) in
    let some : list_any (λ c. eqb c 46) text ≡ true = list_any_at (λ c. eqb c 46) text i 0 (omega arith) (ap (λ c. eqb c 46) at) in
    let behind : suffix_len (λ c. not (eqb c 46)) text ≡ length text - (i + 1) = suffix_behind text i (subst (λ n. NoCharPasses (λ d. eqb d 46) (drop n text)) next found.0) (omega arith) at in
    let before : before_last (λ c. eqb c 46) text ≡ front = ap (λ n. take (length text - n - 1) text) behind ∙ ap (λ n. take n text) (omega arith) ∙ sym f in
    let after : after_last (λ c. eqb c 46) text ≡ end = ap (λ n. drop (length text - n) text) behind ∙ ap (λ n. drop n text) (omega arith) ∙ sym e in
    rw (some, before, after) (ap (λ b. b && nat_le (length end) 3) short)

pub short_name_whole : (text : List ℕ) → RFindsChar 46 text None → is_short_name text ≡ is_in_range 1 8 (length text)
short_name_whole text none = rw (no_period_none text (λ k l. NoCharPasses-char 46 text k none (omega arith) l)) refl
