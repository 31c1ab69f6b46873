-- Identifiers as names of tables, and names that stand unpacked.
use Rattle.std.proofs.Common.{◌≡◌, ℕ, zero, suc, ◌<◌, true, false, List, [], ◌∷◌, length, chars, refl, ap, arith, IsTrue}
use Rattle.std.specs.Prelude.{◌&&◌, nat_lt, nat_le}
use Rattle.std.specs.List.{list_all, list_any}
use Rattle.std.specs.Str.{IsAscii}
use Rattle.std.proofs.lemmas.Bool.{and_parts, lt-ltb, ltb-true, or_from}
use Rattle.std.proofs.lemmas.Bool.Decides.{nat_tests}
use Rattle.std.proofs.lemmas.Str.{chars-IsAscii}
use Rattle.msi_categories.specs.CategoryRules.{continues_name, is_identifier, starts_name}
use Rattle.msi_container_format.specs.Names.{is_name_length, units_of, utf16_units}
use Rattle.msi_container_format.specs.StreamNames.{encoded_units, is_forbidden, is_marked, is_valid_name}

starting_continues : (c : ℕ) → starts_name c ≡ true → continues_name c ≡ true
starting_continues c h = grind (arith, nat_tests)

below_128 : (c : ℕ) → continues_name c ≡ true → c < 128
below_128 c h = grind (arith, nat_tests)

allowed : (c : ℕ) → continues_name c ≡ true → is_forbidden c ≡ false
allowed c h = grind (arith, nat_tests)

all_continue : (name : List ℕ) → is_identifier name ≡ true → list_all continues_name name ≡ true
all_continue [] h = refl
all_continue (c ∷ cs) h = let parts = and_parts (starts_name c) (list_all continues_name cs) h in rw (starting_continues c parts.0) parts.1

are_ascii : (cs : List ℕ) → list_all continues_name cs ≡ true → IsAscii cs
are_ascii [] h i = omega arith
are_ascii (c ∷ cs) h zero = below_128 c (and_parts (continues_name c) (list_all continues_name cs) h).0
are_ascii (c ∷ cs) h (suc i) = are_ascii cs (and_parts (continues_name c) (list_all continues_name cs) h).1 i

are_allowed : (cs : List ℕ) → list_all continues_name cs ≡ true → list_any is_forbidden cs ≡ false
are_allowed [] h = refl
are_allowed (c ∷ cs) h = let parts = and_parts (continues_name c) (list_all continues_name cs) h in or_from _ _ (allowed c parts.0) (are_allowed cs parts.1)

unmarked : (cs : List ℕ) → list_all continues_name cs ≡ true → is_marked cs ≡ false
unmarked [] h = refl
unmarked (c ∷ cs) h = let l = below_128 c (and_parts (continues_name c) (list_all continues_name cs) h).0 in grind (arith, nat_tests)

filled : (name : List ℕ) → is_identifier name ≡ true → nat_lt 0 (length name) ≡ true
filled [] h = cc
filled (c ∷ cs) h = lt-ltb 0 (length (c ∷ cs)) (omega arith)

-- of an identifier only the length decides
pub valid_if_short : (name : List ℕ) → is_identifier name ≡ true → is_valid_name true (chars name) ≡ (is_identifier name && nat_le (encoded_units true (chars name)) 31)
valid_if_short name h =
    let all = all_continue name h in
    let same : chars name ≡ name = chars-IsAscii name (are_ascii name all) in
    rw (h, same, filled name h, are_allowed name all, unmarked name all) refl

-- texts of ASCII are their own characters
ascii_by_test : (cs : List ℕ) → list_all (λ c. nat_lt c 128) cs ≡ true → IsAscii cs
ascii_by_test [] h i = omega arith
ascii_by_test (c ∷ cs) h zero = ltb-true c 128 (and_parts (nat_lt c 128) (list_all (λ c. nat_lt c 128) cs) h).0
ascii_by_test (c ∷ cs) h (suc i) = ascii_by_test cs (and_parts (nat_lt c 128) (list_all (λ c. nat_lt c 128) cs) h).1 i

pub ascii_units : (cs : List ℕ) → list_all (λ c. nat_lt c 128) cs ≡ true → units_of cs ≡ utf16_units cs
ascii_units cs h = ap utf16_units (chars-IsAscii cs (ascii_by_test cs h))

pub ascii_length : (cs : List ℕ) → list_all (λ c. nat_lt c 128) cs ≡ true → is_name_length (length (utf16_units cs)) ≡ true → IsTrue (is_name_length (length (units_of cs)))
ascii_length cs h e = rw (ascii_units cs h) e
