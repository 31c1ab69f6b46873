-- The characters that units of UTF-16 spell, and the one text of well-formed units.
use Rattle.std.proofs.Common.{◌≡◌, ℕ, ◌<◌, ◌+◌, ◌-◌, ◌/◌, ◌%◌, ◌^◌, true, false, cond, ◌&&◌, List, [], ◌∷◌, ◌++◌, map, Some, None, IsTrue, refl, sym, ap, ◌∙◌, arith}
use Rattle.std.proofs.Math.Utf8.{scalar, scalars}
use Rattle.std.proofs.lemmas.Bool.{and_parts, false≢true}
use Rattle.std.proofs.lemmas.Bool.Decides.{nat_tests}
use Rattle.std.proofs.lemmas.Str.{chars-encodes, encodes-chars, scalars-chars}
use Rattle.std.specs.Char.Escape.{encode_utf16}
use Rattle.std.specs.Char.Utf16.{is_high_surrogate, is_low_surrogate, lone_unit_char, surrogate_pair_char, utf16_chars, utf16_lossy_chars}
use Rattle.std.specs.List.{AllByRecursion}
use Rattle.std.specs.Option.{unwrap_or}
use Rattle.std.specs.Prelude.{encode_utf8_all, nat_le, nat_lt, slice_index, suc}
use Rattle.std.specs.Str.{chars}
use Rattle.msi_container_format.specs.Names.{SpellOneText, is_text, utf16_units}
use Rattle.msi_container_format.proofs.Utf16Lemmas.{is_text_low, is_text_other, is_text_pair, is_text_unpaired}

is_lone : (c : ℕ) → scalar c ≡ true → nat_lt c 0x1_0000 ≡ true → (nat_le 0xD800 c && nat_lt c 0xE000) ≡ false
is_lone c is few = grind (arith, nat_tests)

is_no_first : (c : ℕ) → scalar c ≡ true → nat_lt c 0x1_0000 ≡ true → is_high_surrogate c ≡ false
is_no_first c is few = grind (arith, nat_tests)

-- a character of one unit is spelled by it
spelled_by_one : (c : ℕ) (us : List ℕ) → scalar c ≡ true → nat_lt c 0x1_0000 ≡ true → utf16_chars (c ∷ us) ≡ Some c ∷ utf16_chars us
unfolding utf16_chars
spelled_by_one c [] is few = ap (λ b. cond b None (Some c) ∷ []) (is_lone c is few)
spelled_by_one c (v ∷ us) is few =
    ap (λ b. cond (b && is_low_surrogate v) (Some (surrogate_pair_char c v) ∷ utf16_chars us) (lone_unit_char c ∷ utf16_chars (v ∷ us))) (is_no_first c is few)
    ∙ ap (λ b. cond b None (Some c) ∷ utf16_chars (v ∷ us)) (is_lone c is few)

are_pair : (c : ℕ) → scalar c ≡ true → nat_lt c 0x1_0000 ≡ false
    → (is_high_surrogate (0xD800 + (c - 0x1_0000) / 0x400) && is_low_surrogate (0xDC00 + (c - 0x1_0000) % 0x400)) ≡ true
are_pair c is many = grind (arith, nat_tests)

pair_is : (c : ℕ) → nat_lt c 0x1_0000 ≡ false → surrogate_pair_char (0xD800 + (c - 0x1_0000) / 0x400) (0xDC00 + (c - 0x1_0000) % 0x400) ≡ c
pair_is c many = grind (arith, nat_tests)

-- and one of two units by these
spelled_by_two : (c : ℕ) (us : List ℕ) → scalar c ≡ true → nat_lt c 0x1_0000 ≡ false
    → utf16_chars ((0xD800 + (c - 0x1_0000) / 0x400) ∷ (0xDC00 + (c - 0x1_0000) % 0x400) ∷ us) ≡ Some c ∷ utf16_chars us
unfolding utf16_chars
spelled_by_two c us is many =
    let high = 0xD800 + (c - 0x1_0000) / 0x400 in
    let low = 0xDC00 + (c - 0x1_0000) % 0x400 in
    ap (λ b. cond b (Some (surrogate_pair_char high low) ∷ utf16_chars us) (lone_unit_char high ∷ utf16_chars (low ∷ us))) (are_pair c is many)
    ∙ ap (λ d. Some d ∷ utf16_chars us) (pair_is c many)

spelled : (c : ℕ) (us : List ℕ) → scalar c ≡ true → utf16_chars (encode_utf16 c ++ us) ≡ Some c ∷ utf16_chars us
spelled c us is =
    elim (nat_lt c 0x1_0000) as (λ few. nat_lt c 0x1_0000 ≡ few
    → utf16_chars (cond few (c ∷ []) ((0xD800 + (c - 0x1_0000) / 0x400) ∷ (0xDC00 + (c - 0x1_0000) % 0x400) ∷ []) ++ us) ≡ Some c ∷ utf16_chars us) [
      | true ↦ λ few. spelled_by_one c us is few
      | false ↦ λ many. spelled_by_two c us is many
    ] refl

-- the units of characters spell them
pub units_spell : (cs : List ℕ) → scalars cs ≡ true → utf16_lossy_chars (utf16_units cs) ≡ cs
unfolding utf16_chars
units_spell [] are = refl
units_spell (c ∷ cs) are =
    let each = and_parts (scalar c) (scalars cs) are in
    ap (map (λ o. unwrap_or o 0xFFFD)) (spelled c (utf16_units cs) each.0) ∙ ap (λ ds. c ∷ ds) (units_spell cs each.1)

-- CHARACTERS OF WELL-FORMED UNITS

-- some characters have these units
abbrev AreSpelled : List ℕ → Type 0
AreSpelled units = (cs : List ℕ) × (scalars cs ≡ true) × (utf16_units cs ≡ units)

abbrev Fit : List ℕ → Type 0
Fit units = AllByRecursion (λ u. u < 2 ^ 16) units

pub are_units : (units : List ℕ) → ((i : ℕ) → slice_index units i < 2 ^ 16) → AllByRecursion (λ u. u < 2 ^ 16) units
are_units [] small = tt
are_units (u ∷ units) small = (small 0, are_units units (λ i. small (suc i)))

lone_scalar : (u : ℕ) → u < 2 ^ 16 → is_high_surrogate u ≡ false → is_low_surrogate u ≡ false → scalar u ≡ true
lone_scalar u small high low = grind (arith, nat_tests)

lone_units : (u : ℕ) → u < 2 ^ 16 → encode_utf16 u ≡ u ∷ []
lone_units u small = grind (arith, nat_tests)

with_lone : (u : ℕ) (us : List ℕ) → u < 2 ^ 16 → is_high_surrogate u ≡ false → is_low_surrogate u ≡ false → AreSpelled us → AreSpelled (u ∷ us)
with_lone u us small high low (cs, are, units) =
    (u ∷ cs, ap (λ b. b && scalars cs) (lone_scalar u small high low) ∙ are, ap (λ ws. ws ++ utf16_units cs) (lone_units u small) ∙ ap (λ ws. u ∷ ws) units)

pair_scalar : (u v : ℕ) → is_high_surrogate u ≡ true → is_low_surrogate v ≡ true → scalar (surrogate_pair_char u v) ≡ true
pair_scalar u v high low = grind (arith, nat_tests)

pair_many : (u v : ℕ) → nat_lt (surrogate_pair_char u v) 0x1_0000 ≡ false
pair_many u v = grind (arith, nat_tests)

pair_first : (u v : ℕ) → is_high_surrogate u ≡ true → is_low_surrogate v ≡ true → 0xD800 + (surrogate_pair_char u v - 0x1_0000) / 0x400 ≡ u
pair_first u v high low = grind (arith, nat_tests)

pair_second : (u v : ℕ) → is_high_surrogate u ≡ true → is_low_surrogate v ≡ true → 0xDC00 + (surrogate_pair_char u v - 0x1_0000) % 0x400 ≡ v
pair_second u v high low = grind (arith, nat_tests)

pair_units : (u v : ℕ) → is_high_surrogate u ≡ true → is_low_surrogate v ≡ true → encode_utf16 (surrogate_pair_char u v) ≡ u ∷ v ∷ []
pair_units u v high low = rw (pair_many u v, pair_first u v high low, pair_second u v high low) refl

with_pair : (u v : ℕ) (us : List ℕ) → is_high_surrogate u ≡ true → is_low_surrogate v ≡ true → AreSpelled us → AreSpelled (u ∷ v ∷ us)
with_pair u v us high low (cs, are, units) = (
  surrogate_pair_char u v ∷ cs,
  ap (λ b. b && scalars cs) (pair_scalar u v high low) ∙ are,
  ap (λ ws. ws ++ utf16_units cs) (pair_units u v high low) ∙ ap (λ ws. u ∷ v ∷ ws) units,
)

-- well-formed units are those of some characters; and so are those that a high surrogate comes before
spelled_both : (us : List ℕ) → Fit us → (is_text us ≡ true → AreSpelled us) × ((h : ℕ) → is_high_surrogate h ≡ true → is_text (h ∷ us) ≡ true → AreSpelled (h ∷ us))
spelled_both [] fit = (λ t. ([], refl, refl), λ h high t. absurd (false≢true (sym (is_text_unpaired h [] high refl) ∙ t)))
spelled_both (u ∷ us) fit =
    let others = spelled_both us fit.1 in (
      elim (is_low_surrogate u) as (λ l. is_low_surrogate u ≡ l → is_text (u ∷ us) ≡ true → AreSpelled (u ∷ us)) [
        | true ↦ λ l t. absurd (false≢true (sym (is_text_low u us l) ∙ t))
        | false ↦ λ l. elim (is_high_surrogate u) as (λ h. is_high_surrogate u ≡ h → is_text (u ∷ us) ≡ true → AreSpelled (u ∷ us)) [
          | true ↦ λ h t. others.1 u h t
          | false ↦ λ h t. with_lone u us fit.0 h l (others.0 (sym (is_text_other u us h l) ∙ t))
        ] refl
      ] refl,
      λ before high. elim (is_low_surrogate u) as (λ l. is_low_surrogate u ≡ l → is_text (before ∷ u ∷ us) ≡ true → AreSpelled (before ∷ u ∷ us)) [
        | true ↦ λ l t. with_pair before u us high l (others.0 (sym (is_text_pair before u us high l) ∙ t))
        | false ↦ λ l t. absurd (false≢true (sym (is_text_unpaired before (u ∷ us) high l) ∙ t))
      ] refl,
    )

-- so they spell one text
pub spell_one_text : (units : List ℕ) → AllByRecursion (λ u. u < 2 ^ 16) units → IsTrue (is_text units) → SpellOneText units
spell_one_text units fit well =
    let some = (spelled_both units fit).0 well in
    let same = chars-encodes some.0 some.1 in (
      encode_utf8_all some.0,
      (some.0, (some.1, refl)),
      ap utf16_units same ∙ some.2,
      λ other utf8 theirs. sym (encodes-chars other utf8)
          ∙ ap encode_utf8_all (sym (units_spell (chars other) (scalars-chars other utf8)) ∙ ap utf16_lossy_chars (theirs ∙ sym some.2) ∙ units_spell some.0 some.1),
    )
