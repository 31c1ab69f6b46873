-- Keys are names of a container.
use Rattle.std.proofs.Common.{◌≡◌, ℕ, zero, suc, ◌+◌, ◌-◌, ◌/◌, ◌%◌, ◌<◌, ◌≤◌, Bool, true, false, nat_lt, List, [], ◌∷◌, length, chars, refl, sym, subst, ◌∙◌, arith, inl, inr, lit≤, lit<}
use Rattle.std.specs.List.{list_all, AllByRecursion}
use Rattle.std.specs.Str.{IsUtf8}
use Rattle.std.specs.Char.Escape.{encode_utf16}
use Rattle.std.proofs.Math.Utf8.{scalar, scalars}
use Rattle.std.proofs.lemmas.Bool.{and_parts, and_from, ltb-true, leb-true, lt-ltb, le-ltb, cases_lt}
use Rattle.std.proofs.lemmas.Bool.Decides.{nat_tests}
use Rattle.std.proofs.lemmas.List.Folds.{list_all-append}
use Rattle.std.proofs.lemmas.Str.{scalars-chars}
use Rattle.msi_container_format.specs.Chains.{AreBelow}
use Rattle.msi_container_format.specs.Names.{utf16_units}
use Rattle.msi_container_format.specs.StreamNames.{encoded_name, encoded_units}
use Rattle.msi_container_write.specs.LayoutLaw.{IsName}
use Rattle.msi_container_format.proofs.PackedNamesLemmas.{encoded_scalars, low_scalar}
use Rattle.msi_container_format.proofs.AcceptedNamesLemmas.{accepted_is}
use Rattle.msi_container_format.proofs.EncodedUnitsLemmas.{some_units}
use Rattle.msi_container_format.proofs.Utf16Lemmas.{is_text_of_chars}
use Rattle.msi_categories.specs.CategoryRules.{is_identifier}
use Rattle.msi_database_schema.specs.Keys.{is_table_name, is_stream_name, table_key, stream_key, summary_key, string_pool_name, string_data_name}
use Rattle.msi_database_schema.proofs.KeyLemmas.{identifier_chars, identifier_ascii}

-- units of characters have 16 bits
abbrev is_unit : ℕ → Bool
is_unit u = nat_lt u 65536

unit : (u : ℕ) → u < 65536 → is_unit u ≡ true
unit u h = lt-ltb u 65536 h

scalar_below : (c : ℕ) → scalar c ≡ true → c < 0x11_0000
scalar_below c h = grind (arith, nat_tests)

units_of_one : (c : ℕ) → scalar c ≡ true → list_all is_unit (encode_utf16 c) ≡ true
units_of_one c h = let most = scalar_below c h in elim (cases_lt c 0x1_0000) [
  | inl l ↦ rw (lt-ltb c 0x1_0000 l) (and_from _ _ (unit c l) refl)
  | inr g ↦ rw (le-ltb c 0x1_0000 g) (and_from _ _ (unit (0xD800 + (c - 0x1_0000) / 0x400) (omega arith)) (and_from _ _ (unit (0xDC00 + (c - 0x1_0000) % 0x400) (omega arith)) refl))
]

are_units : (cs : List ℕ) → scalars cs ≡ true → list_all is_unit (utf16_units cs) ≡ true
are_units [] h = refl
are_units (c ∷ cs) h = let parts = and_parts (scalar c) (scalars cs) h in list_all-append is_unit (encode_utf16 c) (utf16_units cs) ∙ and_from _ _ (units_of_one c parts.0) (are_units cs parts.1)

below_each : (us : List ℕ) → list_all is_unit us ≡ true → AreBelow 65536 us
below_each [] h i l = absurd (omega arith)
below_each (u ∷ us) h zero l = ltb-true u 65536 (and_parts (is_unit u) (list_all is_unit us) h).0
below_each (u ∷ us) h (suc i) l = below_each us (and_parts (is_unit u) (list_all is_unit us) h).1 i (omega arith)

-- an accepted name of characters is encoded as a name
key_is_name : (is_table : Bool) (cs : List ℕ) → scalars cs ≡ true → 0 < length cs → encoded_units is_table cs ≤ 31 → IsName (utf16_units (encoded_name is_table cs))
key_is_name is_table cs h filled short = record {
  some = some_units is_table cs filled;
  most = short;
  units = below_each (utf16_units (encoded_name is_table cs)) (are_units (encoded_name is_table cs) (encoded_scalars is_table cs h));
  text = is_text_of_chars (encoded_name is_table cs) (encoded_scalars is_table cs h);
}

pub stream_key_is_name : (name : List ℕ) → IsUtf8 name → is_stream_name name ≡ true → IsName (stream_key name)
stream_key_is_name name utf8 h = let is = accepted_is false (chars name) h in key_is_name false (chars name) (scalars-chars name utf8) is.filled is.short

-- a table's name is ASCII, so it is characters
ascii_scalars : (cs : List ℕ) → AllByRecursion (λ c. c < 128) cs → scalars cs ≡ true
ascii_scalars [] h = refl
ascii_scalars (c ∷ cs) h = let small : c < 128 = h.0 in and_from _ _ (low_scalar c (omega arith)) (ascii_scalars cs h.1)

filled_identifier : (name : List ℕ) → is_identifier name ≡ true → 0 < length name
filled_identifier [] h = absurd cc
filled_identifier (c ∷ cs) h = omega arith

identifier_key : (name : List ℕ) → is_identifier name ≡ true → encoded_units true (chars name) ≤ 31 → IsName (table_key name)
identifier_key name h short =
    let same : name ≡ chars name = sym (identifier_chars name h) in
    key_is_name true (chars name) (subst (λ (cs : List ℕ). scalars cs ≡ true) same (ascii_scalars name (identifier_ascii name h)))
    (subst (λ (cs : List ℕ). 0 < length cs) same (filled_identifier name h)) short

pub table_key_is_name : (name : List ℕ) → is_table_name name ≡ true → IsName (table_key name)
table_key_is_name name h = let parts = and_parts _ _ h in let first = and_parts _ _ parts.0 in identifier_key name first.0 (leb-true (encoded_units true (chars name)) 31 first.1)

pub pool_keys_are_names : IsName (table_key string_pool_name) × IsName (table_key string_data_name)
unfolding Rattle.std.specs.Str.chars
pool_keys_are_names = (identifier_key string_pool_name refl (lit≤ tt), identifier_key string_data_name refl (lit≤ tt))

pub summary_key_is_name : IsName summary_key
summary_key_is_name = record {
  some = lit< tt;
  most = lit≤ tt;
  units = below_each summary_key refl;
  text = is_text_of_chars summary_key refl;
}
