-- Units of UTF-16: whether they are well formed, and those of a text.
use Rattle.std.proofs.Common.{◌≡◌, ℕ, ◌<◌, ◌≤◌, ◌+◌, ◌-◌, ◌/◌, ◌%◌, Bool, true, false, not, cond, ◌&&◌, ◌||◌, List, [], ◌∷◌, ◌++◌, length, take, get_or, refl, sym, ap, subst, ◌∙◌, ⊎_elim, arith}
use Rattle.std.proofs.Math.Utf8.{scalar, scalars}
use Rattle.std.proofs.lemmas.Bool.Decides.{nat_tests}
use Rattle.std.proofs.lemmas.List.{append-nil, append_assoc, length-append, length-take-le, nil_from_length}
use Rattle.std.proofs.lemmas.Str.{chars_from_encodes, chars_past_char, chars-nil, IsUtf8-past_char, scalars-chars}
use Rattle.std.specs.Prelude.{is_some, None, Some, nat_lt}
use Rattle.std.specs.Char.Escape.{encode_utf16}
use Rattle.std.specs.Char.Utf16.{is_high_surrogate, is_low_surrogate, lone_unit_char, surrogate_pair_char, utf16_chars}
use Rattle.std.specs.List.{list_any}
use Rattle.std.specs.Str.{chars, IsUtf8}
use Rattle.std.specs.Str.Iter.{encode_utf16_rest, encode_utf16_pending, encode_utf16_steps}
use Rattle.std.specs.String.{IsUtf16Of}
use Rattle.std.specs.declared.str.EncodeUtf16.{EncodeUtf16}
use Rattle.std.proofs.lemmas.Bool.{and_parts}
use Rattle.msi_container_format.specs.Names.{is_name_length, is_text, units_of, utf16_units}

-- Well-formed UTF-16 unit by unit: a low surrogate stands where one is awaited, and nowhere else.
abbrev pub follows : Bool → List ℕ → Bool
follows awaits_low [] = not awaits_low
follows true (u ∷ us) = cond (is_low_surrogate u) (follows (is_high_surrogate u) us) false
follows false (u ∷ us) = cond (is_low_surrogate u) false (follows (is_high_surrogate u) us)

low_is_not_high : (u : ℕ) → is_low_surrogate u ≡ true → is_high_surrogate u ≡ false
low_is_not_high u l = grind (arith, nat_tests)

low_is_none : (u : ℕ) → is_low_surrogate u ≡ true → is_some (lone_unit_char u) ≡ false
low_is_none u l = grind (arith, nat_tests)

high_is_none : (u : ℕ) → is_high_surrogate u ≡ true → is_some (lone_unit_char u) ≡ false
high_is_none u h = grind (arith, nat_tests)

other_is_some : (u : ℕ) → is_high_surrogate u ≡ false → is_low_surrogate u ≡ false → is_some (lone_unit_char u) ≡ true
other_is_some u h l = grind (arith, nat_tests)

-- what the units that begin with u and v spell, by whether these are a pair
abbrev is_text_by : ℕ → ℕ → List ℕ → Bool → Bool
is_text_by u v us pair = not (list_any (λ o. not (is_some o)) (cond pair (Some (surrogate_pair_char u v) ∷ utf16_chars us) (lone_unit_char u ∷ utf16_chars (v ∷ us))))

pub is_text_pair : (u v : ℕ) (us : List ℕ) → is_high_surrogate u ≡ true → is_low_surrogate v ≡ true → is_text (u ∷ v ∷ us) ≡ is_text us
unfolding utf16_chars
is_text_pair u v us h l = ap (λ b. is_text_by u v us (b && is_low_surrogate v)) h ∙ ap (is_text_by u v us) l

turned : (a b : Bool) → not (not a || b) ≡ (a && not b)
turned true b = refl
turned false b = refl

is_text_lone : (u : ℕ) (us : List ℕ) → (is_high_surrogate u && is_low_surrogate (get_or us 0 0)) ≡ false → is_text (u ∷ us) ≡ (is_some (lone_unit_char u) && is_text us)
unfolding utf16_chars
is_text_lone u [] apart = turned (is_some (lone_unit_char u)) false
is_text_lone u (v ∷ us) apart = ap (is_text_by u v us) apart ∙ turned (is_some (lone_unit_char u)) _

-- a high surrogate that no low one follows
pub is_text_unpaired : (u : ℕ) (us : List ℕ) → is_high_surrogate u ≡ true → is_low_surrogate (get_or us 0 0) ≡ false → is_text (u ∷ us) ≡ false
is_text_unpaired u us h l = is_text_lone u us (ap (λ b. b && is_low_surrogate (get_or us 0 0)) h ∙ l) ∙ ap (λ b. b && is_text us) (high_is_none u h)

pub is_text_low : (u : ℕ) (us : List ℕ) → is_low_surrogate u ≡ true → is_text (u ∷ us) ≡ false
is_text_low u us l = is_text_lone u us (ap (λ b. b && is_low_surrogate (get_or us 0 0)) (low_is_not_high u l)) ∙ ap (λ b. b && is_text us) (low_is_none u l)

pub is_text_other : (u : ℕ) (us : List ℕ) → is_high_surrogate u ≡ false → is_low_surrogate u ≡ false → is_text (u ∷ us) ≡ is_text us
is_text_other u us h l = is_text_lone u us (ap (λ b. b && is_low_surrogate (get_or us 0 0)) h) ∙ ap (λ b. b && is_text us) (other_is_some u h l)

follows_both : (us : List ℕ) → (follows false us ≡ is_text us) × ((h : ℕ) → is_high_surrogate h ≡ true → follows true us ≡ is_text (h ∷ us))
unfolding utf16_chars
follows_both [] = (refl, λ h t. sym (is_text_unpaired h [] t refl))
follows_both (u ∷ us) = (
  elim (is_low_surrogate u) as (λ l. is_low_surrogate u ≡ l → cond l false (follows (is_high_surrogate u) us) ≡ is_text (u ∷ us)) [
    | true ↦ λ l. sym (is_text_low u us l)
    | false ↦ λ l. elim (is_high_surrogate u) as (λ h. is_high_surrogate u ≡ h → follows h us ≡ is_text (u ∷ us)) [
      | true ↦ λ h. (follows_both us).1 u h
      | false ↦ λ h. (follows_both us).0 ∙ sym (is_text_other u us h l)
    ] refl
  ] refl,
  λ before t. elim (is_low_surrogate u) as (λ l. is_low_surrogate u ≡ l → cond l (follows (is_high_surrogate u) us) false ≡ is_text (before ∷ u ∷ us)) [
    | true ↦ λ l. ap (λ h. follows h us) (low_is_not_high u l) ∙ (follows_both us).0 ∙ sym (is_text_pair before u us t l)
    | false ↦ λ l. sym (is_text_unpaired before (u ∷ us) t l)
  ] refl,
)

pub follows_is_text : (units : List ℕ) → follows false units ≡ is_text units
follows_is_text units = (follows_both units).0

is_text_of_one : (c : ℕ) (us : List ℕ) → scalar c ≡ true → nat_lt c 0x1_0000 ≡ true → is_text (c ∷ us) ≡ is_text us
is_text_of_one c us is few = is_text_other c us (grind (arith, nat_tests)) (grind (arith, nat_tests))

is_text_of_two : (c : ℕ) (us : List ℕ) → scalar c ≡ true → nat_lt c 0x1_0000 ≡ false → is_text ((0xD800 + (c - 0x1_0000) / 0x400) ∷ (0xDC00 + (c - 0x1_0000) % 0x400) ∷ us) ≡ is_text us
is_text_of_two c us is many = is_text_pair _ _ us (grind (arith, nat_tests)) (grind (arith, nat_tests))

is_text_of_char : (c : ℕ) (us : List ℕ) → scalar c ≡ true → is_text (encode_utf16 c ++ us) ≡ is_text us
is_text_of_char c us is =
    elim (nat_lt c 0x1_0000) as (λ few. nat_lt c 0x1_0000 ≡ few → is_text (cond few (c ∷ []) ((0xD800 + (c - 0x1_0000) / 0x400) ∷ (0xDC00 + (c - 0x1_0000) % 0x400) ∷ []) ++ us) ≡ is_text us) [
      | true ↦ λ few. is_text_of_one c us is few
      | false ↦ λ many. is_text_of_two c us is many
    ] refl

-- the units of characters are well formed
pub is_text_of_chars : (cs : List ℕ) → scalars cs ≡ true → is_text (utf16_units cs) ≡ true
unfolding utf16_chars
is_text_of_chars [] are = refl
is_text_of_chars (c ∷ cs) are =
    let each = and_parts (scalar c) (scalars cs) are in
    is_text_of_char c (utf16_units cs) each.0 ∙ is_text_of_chars cs each.1

-- and so are those of a text
pub is_text_of_text : (bytes : List ℕ) → IsUtf8 bytes → is_text (units_of bytes) ≡ true
is_text_of_text bytes utf8 = is_text_of_chars (chars bytes) (scalars-chars bytes utf8)

-- UNITS OF A TEXT IN TURN

-- the units that `encode_utf16` has left
abbrev pub units_left : EncodeUtf16 → List ℕ
units_left s = encode_utf16_pending s ++ utf16_units (chars (encode_utf16_rest s))

units_left_none : (s t : EncodeUtf16) → encode_utf16_steps s None t → units_left s ≡ []
units_left_none s t step = ap (λ p. p ++ utf16_units (chars (encode_utf16_rest s))) step.0 ∙ ap (λ r. utf16_units (chars r)) (nil_from_length _ step.1) ∙ ap utf16_units chars-nil

units_left_some : (s t : EncodeUtf16) (x : ℕ) → IsUtf8 (encode_utf16_rest s) → encode_utf16_steps s (Some x) t → units_left s ≡ x ∷ units_left t
units_left_some s t x u step = ⊎_elim
    (λ h. ap (λ p. p ++ utf16_units (chars (encode_utf16_rest s))) h.0
    ∙ ap (λ r. x ∷ utf16_units (chars r)) (sym h.2)
    ∙ ap (λ p. x ∷ (p ++ utf16_units (chars (encode_utf16_rest t)))) (sym h.1))
    (λ h. ap (λ p. p ++ utf16_units (chars (encode_utf16_rest s))) h.0
    ∙ ap utf16_units (chars_past_char _ _ h.1.0 u h.1.1)
    ∙ ap (λ p. p ++ utf16_units (chars (encode_utf16_rest t))) h.1.2)
    step

pub utf8_left : (s t : EncodeUtf16) (x : ℕ) → IsUtf8 (encode_utf16_rest s) → encode_utf16_steps s (Some x) t → IsUtf8 (encode_utf16_rest t)
utf8_left s t x u step = ⊎_elim (λ h. subst IsUtf8 (sym h.2) u) (λ h. IsUtf8-past_char _ _ h.1.0 u h.1.1) step

-- one unit more is taken
pub units_taken_more : (front all : List ℕ) (s t : EncodeUtf16) (x : ℕ) → IsUtf8 (encode_utf16_rest s) → encode_utf16_steps s (Some x) t → front ++ units_left s ≡ all → (front ++ x ∷ []) ++ units_left t ≡ all
units_taken_more front all s t x utf8 step so_far = append_assoc front (x ∷ []) (units_left t) ∙ ap (λ ws. front ++ ws) (sym (units_left_some s t x utf8 step)) ∙ so_far

-- all units are taken
pub units_taken_all : (front all : List ℕ) (s t : EncodeUtf16) → encode_utf16_steps s None t → front ++ units_left s ≡ all → front ≡ all
units_taken_all front all s t step so_far = sym (append-nil front) ∙ ap (λ ws. front ++ ws) (sym (units_left_none s t step)) ∙ so_far

-- a unit is left after the 31st
pub units_past_31 : (front all : List ℕ) (s t : EncodeUtf16) (x : ℕ) → length front ≡ 31 → IsUtf8 (encode_utf16_rest s) → encode_utf16_steps s (Some x) t → front ++ units_left s ≡ all → false ≡ is_name_length (length all)
units_past_31 front all s t x full utf8 step so_far =
    let counted : length front + length (units_left s) ≡ length all = sym (length-append front (units_left s)) ∙ ap length so_far in
    let one : length (units_left s) ≡ length (units_left t) + 1 = ap length (units_left_some s t x utf8 step) ∙ omega arith in
    let past : 31 < length all = omega arith in
    grind (arith, nat_tests)

-- as many are taken as the text has
pub count_taken_all : (units all : List ℕ) (n : ℕ) (s t : EncodeUtf16) → n ≤ length units → encode_utf16_steps s None t → take n units ++ units_left s ≡ all → length all ≡ n
count_taken_all units all n s t within step so_far = ap length (sym (units_taken_all (take n units) all s t step so_far)) ∙ length-take-le n units within

pub within_31 : (n : ℕ) → ¬ (n ≡ 0) → n ≤ 31 → true ≡ is_name_length n
within_31 n some most = grind (arith, nat_tests)

-- the text that some units spell has these units
pub units_of_spelled : (units bytes : List ℕ) → IsUtf8 bytes → IsUtf16Of units bytes → units_of bytes ≡ units
units_of_spelled units bytes utf8 h = ap utf16_units (sym (chars_from_encodes h.0 bytes utf8 (sym h.2))) ∙ sym h.1
