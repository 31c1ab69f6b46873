-- Encoded names beside those that aren't packed, and those of tables.
use Rattle.std.proofs.Common.{◌≡◌, ◌≢◌, ◌==◌, ◌≤◌, ◌+◌, ◌-◌, ◌/◌, ◌%◌, ℕ, Bool, true, false, List, [], ◌∷◌, Option, Some, None, is_none, refl, sym, ap, ◌∙◌, arith, inl, inr}
use Rattle.std.specs.Char.Escape.{encode_utf16}
use Rattle.std.specs.List.{list_all}
use Rattle.std.proofs.lemmas.Bool.{and_from, and_parts, cases_lt, le-ltb, lt-ltb, ne_eqb, true≢false}
use Rattle.std.proofs.lemmas.Bool.Decides.{nat_tests}
use Rattle.std.proofs.lemmas.List.Folds.{list_all-append}
use Rattle.msi_container_format.specs.Names.{utf16_units}
use Rattle.msi_container_format.specs.StreamNames.{encoded_name, is_marked, packed, packed_pair, packed_single, table_mark, value_of}
use Rattle.msi_container_format.proofs.PackingLemmas.{packed_from, packed_is}
use Rattle.msi_container_format.proofs.UnpackingLemmas.{packed_unmarked}

-- a unit that isn't packed, since it has no value
abbrev no_value : ℕ → Bool
no_value u = is_none (value_of u)

high_has_no_value : (u : ℕ) → 0x3800 ≤ u → no_value u ≡ true
high_has_no_value u h = grind (arith, nat_tests)

no_values_of_one : (c : ℕ) → no_value c ≡ true → list_all no_value (encode_utf16 c) ≡ true
no_values_of_one c h = elim (cases_lt c 0x1_0000) [
  | inl l ↦ rw (lt-ltb c 0x1_0000 l) (and_from _ _ h refl)
  | inr g ↦ rw (le-ltb c 0x1_0000 g)
      (and_from _ _ (high_has_no_value (0xD800 + (c - 0x1_0000) / 0x400) (omega arith))
      (and_from _ _ (high_has_no_value (0xDC00 + (c - 0x1_0000) % 0x400) (omega arith)) refl))
]

no_values_of_units : (cs : List ℕ) → list_all no_value cs ≡ true → list_all no_value (utf16_units cs) ≡ true
no_values_of_units [] h = refl
no_values_of_units (c ∷ cs) h =
    let parts = and_parts (no_value c) (list_all no_value cs) h in
    list_all-append no_value (encode_utf16 c) (utf16_units cs) ∙ and_from _ _ (no_values_of_one c parts.0) (no_values_of_units cs parts.1)

-- for any values, and a test that passes what has none and what is packed
module _ (value : ℕ → Option ℕ) (test : ℕ → Bool) (none : (c : ℕ) → value c ≡ None → test c ≡ true) (high : (u : ℕ) → 0x3800 ≤ u → test u ≡ true) where
  tested_at : (c : ℕ) (cs : List ℕ) (waiting own : Option ℕ) → value c ≡ own → ((next : Option ℕ) → list_all test (packed_from value next cs) ≡ true)
      → list_all test (packed_from value waiting (c ∷ cs)) ≡ true
  tested_at c cs None None o h = rw o (and_from _ _ (none c o) (h None))
  tested_at c cs None (Some u) o h = rw o (h (Some u))
  tested_at c cs (Some v) None o h = rw o (and_from _ _ (high (packed_single v) (omega arith)) (and_from _ _ (none c o) (h None)))
  tested_at c cs (Some v) (Some u) o h = rw o (and_from _ _ (high (packed_pair v u) (omega arith)) (h None))

  all_tested : (cs : List ℕ) (waiting : Option ℕ) → list_all test (packed_from value waiting cs) ≡ true
  all_tested [] None = refl
  all_tested [] (Some v) = and_from _ _ (high (packed_single v) (omega arith)) refl
  all_tested (c ∷ cs) waiting = tested_at c cs waiting (value c) refl (all_tested cs)

none_has_no_value : (c : ℕ) → value_of c ≡ None → no_value c ≡ true
none_has_no_value c e = ap is_none e

packed_has_no_value : (cs : List ℕ) → list_all no_value (packed cs) ≡ true
packed_has_no_value cs = rw (← packed_is) (all_tested value_of no_value none_has_no_value high_has_no_value cs None)

encoded_has_no_value : (is_table : Bool) (cs : List ℕ) → list_all no_value (encoded_name is_table cs) ≡ true
encoded_has_no_value true cs = and_from _ _ refl (packed_has_no_value cs)
encoded_has_no_value false cs = packed_has_no_value cs

-- an encoded name isn't one that has a unit with a value
pub encoded≢valued : (is_table : Bool) (cs units : List ℕ) → list_all no_value units ≡ false → utf16_units (encoded_name is_table cs) ≢ units
encoded≢valued is_table cs units h e =
    true≢false (sym (no_values_of_units (encoded_name is_table cs) (encoded_has_no_value is_table cs)) ∙ ap (list_all no_value) e ∙ h)

-- an unmarked name is unmarked in its units
high_is_no_mark : (n : ℕ) → (0xD800 + n == table_mark) ≡ false
high_is_no_mark n = ne_eqb (0xD800 + n) table_mark (λ e. omega arith)

units_unmarked : (cs : List ℕ) → is_marked cs ≡ false → is_marked (utf16_units cs) ≡ false
units_unmarked [] h = h
units_unmarked (c ∷ cs) h = elim (cases_lt c 0x1_0000) [
  | inl l ↦ rw (lt-ltb c 0x1_0000 l) h
  | inr g ↦ rw (le-ltb c 0x1_0000 g) (high_is_no_mark ((c - 0x1_0000) / 0x400))
]

pub stream≢table : (cs ds : List ℕ) → is_marked cs ≡ false → utf16_units (encoded_name false cs) ≢ utf16_units (encoded_name true ds)
stream≢table cs ds m e = true≢false (ap is_marked (sym e) ∙ units_unmarked (packed cs) (packed_unmarked cs m))
