-- A text that `parse` reads as a number of 16 bits.
use Rattle.std.proofs.Common.{◌≡◌, ℕ, ◌^◌, ◌<◌, true, List, length, Some, None, refl, ap, inl, inr, rules}
use Rattle.std.specs.Prelude.{nat_lt, ◌&&◌}
use Rattle.std.specs.List.{list_all}
use Rattle.std.specs.Char.{is_ascii_digit}
use Rattle.std.specs.Str.Parse.{IsNumeral, digits_value, without_leading_plus}
use Rattle.std.proofs.lemmas.Bool.{cases_Bool, and_parts, lt-ltb, ltb-true}
use Rattle.std.proofs.lemmas.Str.Parse.{IsNumeralModel, numerals_by_value}
use Rattle.msi_categories.specs.Numerals.{u16_in, is_numeral}

own : IsNumeralModel (λ ds. list_all is_ascii_digit ds ≡ true) (digits_value 10)
own = numerals_by_value _ (search rules)

is_numeral-from : (ds : List ℕ) → IsNumeral 10 ds → is_numeral ds ≡ true
is_numeral-from ds h = rw (lt-ltb 0 (length ds) h.0, own.from ds h.1)

IsNumeral-from : (ds : List ℕ) → is_numeral ds ≡ true → IsNumeral 10 ds
IsNumeral-from ds h =
    let both = and_parts (nat_lt 0 (length ds)) (list_all is_ascii_digit ds) h in
    (ltb-true 0 (length ds) both.0, own.to ds both.1)

-- what `parse` answers `Ok` with, and what it refuses
pub u16_in-ok : (bs : List ℕ) (n : ℕ) → (IsNumeral 10 (without_leading_plus bs) × (digits_value 10 (without_leading_plus bs) < 2 ^ 16)) × (n ≡ digits_value 10 (without_leading_plus bs)) → Some n ≡ u16_in bs
u16_in-ok bs n h =
    let ds = without_leading_plus bs in
    rw (is_numeral-from ds h.0.0, lt-ltb (digits_value 10 ds) (2 ^ 16) h.0.1) (ap (λ (k : ℕ). Some k) h.1)

pub u16_in-err : (bs : List ℕ) → ¬ (IsNumeral 10 (without_leading_plus bs) × (digits_value 10 (without_leading_plus bs) < 2 ^ 16)) → None ≡ u16_in bs
u16_in-err bs h =
    let ds = without_leading_plus bs in
    elim (cases_Bool (is_numeral ds && nat_lt (digits_value 10 ds) (2 ^ 16))) [
      | inl t ↦
          let both = and_parts (is_numeral ds) (nat_lt (digits_value 10 ds) (2 ^ 16)) t in
          absurd (h (IsNumeral-from ds both.0, ltb-true (digits_value 10 ds) (2 ^ 16) both.1))
      | inr f ↦ rw f refl
    ]
