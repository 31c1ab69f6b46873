-- Keys of tables tell their names, and differ from every other key of a package.
use Rattle.std.proofs.Common.{◌≡◌, ◌≢◌, ℕ, zero, suc, ◌+◌, ◌-◌, ◌/◌, ◌%◌, ◌<◌, ◌≤◌, Bool, true, false, ◌==◌, List, [], ◌∷◌, drop, chars, Option, Some, None, is_none, IfSome, refl, sym, ap, subst, ◌∙◌, arith, nat_lt, nat_le, length, inl, inr}
use Rattle.std.specs.List.{list_all, list_any, flat_map, AllByRecursion}
use Rattle.std.specs.Str.{IsAscii}
use Rattle.std.specs.Char.Escape.{encode_utf16}
use Rattle.std.proofs.lemmas.Bool.{and_parts, and_from, not-true, true≢false, lt-ltb, cases_lt, le-ltb, or_parts, or_from, ne_eqb}
use Rattle.std.proofs.lemmas.Bool.Decides.{nat_tests}
use Rattle.std.proofs.lemmas.List.Folds.{list_all-append}
use Rattle.std.proofs.lemmas.Slice.Eq.{bytes_eq-Decides}
use Rattle.std.proofs.lemmas.Str.{chars-IsAscii}
use Rattle.msi_categories.specs.CategoryRules.{is_identifier, continues_name, starts_name}
use Rattle.msi_container_format.specs.Names.{utf16_units, is_name_length}
use Rattle.msi_container_format.proofs.EncodedUnitsLemmas.{some_units}
use Rattle.msi_container_format.specs.StreamNames.{value_of, packed, packed_pair, packed_single, is_marked, is_forbidden, table_mark, unpacked}
use Rattle.msi_container_format.proofs.CharacterValueLemmas.{value_below}
use Rattle.msi_container_format.proofs.PackingLemmas.{packed_from, packed_is}
use Rattle.msi_container_format.proofs.UnpackingLemmas.{packed_unmarked, unpacked_back}
use Rattle.msi_container_format.proofs.AcceptedNamesLemmas.{accepted_is}
use Rattle.msi_database_schema.specs.Keys.{is_table_name, is_stream_name, is_pool_name, table_key, stream_key, summary_key, signature_key, signature_ex_key, string_pool_name, string_data_name}
use Rattle.msi_database_schema.specs.System.{tables_name, columns_name, validation_name}

-- an identifier has characters with values alone
continues_if_starts : (c : ℕ) → starts_name c ≡ true → continues_name c ≡ true
continues_if_starts c h = grind (arith, nat_tests)

continue_all : (text : List ℕ) → is_identifier text ≡ true → list_all continues_name text ≡ true
continue_all [] h = refl
continue_all (c ∷ cs) h = let parts = and_parts (starts_name c) (list_all continues_name cs) h in rw (continues_if_starts c parts.0) parts.1

has_value : (c : ℕ) → continues_name c ≡ true → is_none (value_of c) ≡ false
has_value c h = grind (arith, nat_tests)

below_128 : (c : ℕ) → continues_name c ≡ true → c < 128
below_128 c h = grind (arith, nat_tests)

allowed_character : (c : ℕ) → continues_name c ≡ true → is_forbidden c ≡ false
allowed_character c h = grind (arith, nat_tests)

are_ascii : (cs : List ℕ) → list_all continues_name cs ≡ true → IsAscii cs
are_ascii [] h i = omega arith
are_ascii (c ∷ cs) h zero = below_128 c (and_parts (continues_name c) (list_all continues_name cs) h).0
are_ascii (c ∷ cs) h (suc i) = are_ascii cs (and_parts (continues_name c) (list_all continues_name cs) h).1 i

are_allowed : (cs : List ℕ) → list_all continues_name cs ≡ true → list_any is_forbidden cs ≡ false
are_allowed [] h = refl
are_allowed (c ∷ cs) h = let parts = and_parts (continues_name c) (list_all continues_name cs) h in or_from _ _ (allowed_character c parts.0) (are_allowed cs parts.1)

-- small units stand for themselves
abbrev pub is_small : ℕ → Bool
is_small u = nat_lt u 0x1_0000

utf16_of_small : (us : List ℕ) → list_all is_small us ≡ true → utf16_units us ≡ us
utf16_of_small [] h = refl
utf16_of_small (u ∷ us) h = let parts = and_parts (is_small u) (list_all is_small us) h in rw (parts.0, utf16_of_small us parts.1)

small : (u : ℕ) → u < 0x1_0000 → is_small u ≡ true
small u h = lt-ltb u 0x1_0000 h

module _ (value : ℕ → Option ℕ) (below : (c v : ℕ) → value c ≡ Some v → v < 64) (valued : (c : ℕ) → continues_name c ≡ true → is_none (value c) ≡ false) where
  small_at : (c : ℕ) (cs : List ℕ) (waiting own : Option ℕ) → value c ≡ own → is_none own ≡ false → IfSome waiting (λ v. v < 64)
      → ((next : Option ℕ) → IfSome next (λ v. v < 64) → list_all is_small (packed_from value next cs) ≡ true)
      → list_all is_small (packed_from value waiting (c ∷ cs)) ≡ true
  small_at c cs waiting None o n w h = absurd (true≢false n)
  small_at c cs None (Some u) o n w h = rw o (h (Some u) (below c u o))
  small_at c cs (Some v) (Some u) o n w h =
      let u_small = below c u o in
      rw o (and_from _ _ (small (packed_pair v u) (omega arith)) (h None tt))

  all_small : (cs : List ℕ) (waiting : Option ℕ) → IfSome waiting (λ v. v < 64) → list_all continues_name cs ≡ true → list_all is_small (packed_from value waiting cs) ≡ true
  all_small [] None w h = refl
  all_small [] (Some v) w h = and_from _ _ (small (packed_single v) (omega arith)) refl
  all_small (c ∷ cs) waiting w h = let parts = and_parts (continues_name c) (list_all continues_name cs) h in
      small_at c cs waiting (value c) refl (valued c parts.0) w (λ next n. all_small cs next n parts.1)

-- the key of an identifier
pub table_key_is : (name : List ℕ) → is_identifier name ≡ true → table_key name ≡ table_mark ∷ packed name
table_key_is name h =
    let cs : chars name ≡ name = chars-IsAscii name (are_ascii name (continue_all name h)) in
    rw (cs, ← packed_is) (ap (λ us. table_mark ∷ us) (utf16_of_small (packed_from value_of None name) (all_small value_of value_below has_value name None tt (continue_all name h))))

-- identifiers have keys of their own
pub table_keys_tell : (s t : List ℕ) → is_identifier s ≡ true → is_identifier t ≡ true → table_key s ≡ table_key t → s ≡ t
table_keys_tell s t g h e =
    let same : packed s ≡ packed t = ap (drop 1) (sym (table_key_is s g) ∙ e ∙ table_key_is t h) in
    sym (unpacked_back s (are_allowed s (continue_all s g))) ∙ ap (flat_map unpacked) same ∙ unpacked_back t (are_allowed t (continue_all t h))

-- what an accepted table name is
pub record IsTableName (name : List ℕ) : Type 0 where
  pub identifier : is_identifier name ≡ true
  pub no_pool : is_pool_name name ≡ false

pub table_name_is : (name : List ℕ) → is_table_name name ≡ true → IsTableName name
table_name_is name h = let parts = and_parts _ _ h in record { identifier = (and_parts _ _ parts.0).0; no_pool = not-true _ parts.1 }

pub table_keys_tell_names : (s t : List ℕ) → is_table_name s ≡ true → is_table_name t ≡ true → table_key s ≡ table_key t → s ≡ t
table_keys_tell_names s t g h e = table_keys_tell s t (table_name_is s g).identifier (table_name_is t h).identifier e

pub table_key≢pool : (name : List ℕ) → is_table_name name ≡ true → (table_key name ≢ table_key string_pool_name) × (table_key name ≢ table_key string_data_name)
table_key≢pool name h =
    let is = table_name_is name h in
    let none = or_parts _ _ is.no_pool in (
      λ e. true≢false (sym ((bytes_eq-Decides name string_pool_name).1 (table_keys_tell name string_pool_name is.identifier refl e)) ∙ none.0),
      λ e. true≢false (sym ((bytes_eq-Decides name string_data_name).1 (table_keys_tell name string_data_name is.identifier refl e)) ∙ none.1),
    )

pub pool_keys_differ : table_key string_pool_name ≢ table_key string_data_name
pool_keys_differ e = true≢false (sym ((bytes_eq-Decides string_pool_name string_data_name).1 (table_keys_tell string_pool_name string_data_name refl refl e)))

-- an accepted name's key is as long as a container's name may be
is_length : (n : ℕ) → 0 < n → nat_le n 31 ≡ true → is_name_length n ≡ true
is_length n some most = and_from (nat_lt 0 n) (nat_le n 31) (lt-ltb 0 n some) most

filled_identifier : (name : List ℕ) → is_identifier name ≡ true → 0 < length name
filled_identifier [] h = absurd cc
filled_identifier (c ∷ cs) h = omega arith

pub table_key_is_name : (name : List ℕ) → is_table_name name ≡ true → is_name_length (length (table_key name)) ≡ true
table_key_is_name name h =
    let parts = and_parts _ _ h in
    let first = and_parts (is_identifier name) _ parts.0 in
    let same : name ≡ chars name = sym (chars-IsAscii name (are_ascii name (continue_all name first.0))) in
    is_length (length (table_key name)) (some_units true (chars name) (subst (λ (cs : List ℕ). 0 < length cs) same (filled_identifier name first.0))) first.1

-- a table's key begins with the mark
pub table_key_marked : (name : List ℕ) → is_marked (table_key name) ≡ true
table_key_marked name = refl

pub unmarked≢table_key : (name key : List ℕ) → is_marked key ≡ false → table_key name ≢ key
unmarked≢table_key name key h e = true≢false (ap is_marked e ∙ h)

pub table_key≢summary_key : (name : List ℕ) → table_key name ≢ summary_key
table_key≢summary_key name = unmarked≢table_key name summary_key refl

pub table_key≢signature_key : (name : List ℕ) → (table_key name ≢ signature_key) × (table_key name ≢ signature_ex_key)
table_key≢signature_key name = (unmarked≢table_key name signature_key refl, unmarked≢table_key name signature_ex_key refl)

-- an accepted stream name's doesn't
high_is_no_mark : (n : ℕ) → (0xD800 + n == table_mark) ≡ false
high_is_no_mark n = ne_eqb (0xD800 + n) table_mark (λ e. omega arith)

units_unmarked : (cs : List ℕ) → is_marked cs ≡ false → is_marked (utf16_units cs) ≡ false
units_unmarked [] h = h
units_unmarked (c ∷ cs) h = elim (cases_lt c 0x1_0000) [
  | inl l ↦ rw (lt-ltb c 0x1_0000 l) h
  | inr g ↦ rw (le-ltb c 0x1_0000 g) (high_is_no_mark ((c - 0x1_0000) / 0x400))
]

pub stream_key_unmarked : (name : List ℕ) → is_stream_name name ≡ true → is_marked (stream_key name) ≡ false
stream_key_unmarked name h = units_unmarked (packed (chars name)) (packed_unmarked (chars name) (accepted_is false (chars name) h).unmarked)

pub table_key≢stream_key : (table name : List ℕ) → is_stream_name name ≡ true → table_key table ≢ stream_key name
table_key≢stream_key table name h = unmarked≢table_key table (stream_key name) (stream_key_unmarked name h)

-- a packed name has no unit that could have been packed
abbrev no_value : ℕ → Bool
no_value u = is_none (value_of u)

high_has_no_value : (u : ℕ) → 0x3800 ≤ u → no_value u ≡ true
high_has_no_value u h = grind (arith, nat_tests)

no_values_of_one : (c : ℕ) → no_value c ≡ true → list_all no_value (encode_utf16 c) ≡ true
no_values_of_one c h = elim (cases_lt c 0x1_0000) [
  | inl l ↦ rw (lt-ltb c 0x1_0000 l) (and_from _ _ h refl)
  | inr g ↦ rw (le-ltb c 0x1_0000 g) (and_from _ _ (high_has_no_value (0xD800 + (c - 0x1_0000) / 0x400) (omega arith)) (and_from _ _ (high_has_no_value (0xDC00 + (c - 0x1_0000) % 0x400) (omega arith)) refl))
]

no_values_of_units : (cs : List ℕ) → list_all no_value cs ≡ true → list_all no_value (utf16_units cs) ≡ true
no_values_of_units [] h = refl
no_values_of_units (c ∷ cs) h = let parts = and_parts (no_value c) (list_all no_value cs) h in
    list_all-append no_value (encode_utf16 c) (utf16_units cs) ∙ and_from _ _ (no_values_of_one c parts.0) (no_values_of_units cs parts.1)

module _ (value : ℕ → Option ℕ) (test : ℕ → Bool) (none : (c : ℕ) → value c ≡ None → test c ≡ true) (high : (u : ℕ) → 0x3800 ≤ u → test u ≡ true) where
  tested_at : (c : ℕ) (cs : List ℕ) (waiting own : Option ℕ) → value c ≡ own → ((next : Option ℕ) → list_all test (packed_from value next cs) ≡ true) → list_all test (packed_from value waiting (c ∷ cs)) ≡ true
  tested_at c cs None None o h = rw o (and_from _ _ (none c o) (h None))
  tested_at c cs None (Some u) o h = rw o (h (Some u))
  tested_at c cs (Some v) None o h = rw o (and_from _ _ (high (packed_single v) (omega arith)) (and_from _ _ (none c o) (h None)))
  tested_at c cs (Some v) (Some u) o h = rw o (and_from _ _ (high (packed_pair v u) (omega arith)) (h None))

  all_tested : (cs : List ℕ) (waiting : Option ℕ) → list_all test (packed_from value waiting cs) ≡ true
  all_tested [] None = refl
  all_tested [] (Some v) = and_from _ _ (high (packed_single v) (omega arith)) refl
  all_tested (c ∷ cs) waiting = tested_at c cs waiting (value c) refl (all_tested cs)

none_has_no_value : (c : ℕ) → value_of c ≡ None → no_value c ≡ true
none_has_no_value c e = ap is_none e

pub stream_key_has_no_value : (name : List ℕ) → list_all no_value (stream_key name) ≡ true
stream_key_has_no_value name = rw (← packed_is) (no_values_of_units (packed_from value_of None (chars name)) (all_tested value_of no_value none_has_no_value high_has_no_value (chars name) None))

valued≢stream_key : (name key : List ℕ) → list_all no_value key ≡ false → stream_key name ≢ key
valued≢stream_key name key h e = true≢false (sym (stream_key_has_no_value name) ∙ ap (list_all no_value) e ∙ h)

pub stream_key≢summary_key : (name : List ℕ) → stream_key name ≢ summary_key
stream_key≢summary_key name = valued≢stream_key name summary_key refl

pub stream_key≢signature_key : (name : List ℕ) → (stream_key name ≢ signature_key) × (stream_key name ≢ signature_ex_key)
stream_key≢signature_key name = (valued≢stream_key name signature_key refl, valued≢stream_key name signature_ex_key refl)

pub signature≢summary : signature_key ≢ summary_key
signature≢summary e = true≢false (sym ((bytes_eq-Decides signature_key summary_key).1 e))

pub signature_ex≢summary : signature_ex_key ≢ summary_key
signature_ex≢summary e = true≢false (sym ((bytes_eq-Decides signature_ex_key summary_key).1 e))

-- the names of the system's tables are accepted
pub tables_accepted : is_table_name tables_name ≡ true
unfolding Rattle.std.specs.Str.chars
tables_accepted = refl

pub columns_accepted : is_table_name columns_name ≡ true
unfolding Rattle.std.specs.Str.chars
columns_accepted = refl

pub validation_accepted : is_table_name validation_name ≡ true
unfolding Rattle.std.specs.Str.chars
validation_accepted = refl

pub identifier_chars : (name : List ℕ) → is_identifier name ≡ true → chars name ≡ name
identifier_chars name h = chars-IsAscii name (are_ascii name (continue_all name h))

pub identifier_below_128 : (cs : List ℕ) → list_all continues_name cs ≡ true → AllByRecursion (λ c. c < 128) cs
identifier_below_128 [] h = tt
identifier_below_128 (c ∷ cs) h = let parts = and_parts (continues_name c) (list_all continues_name cs) h in (below_128 c parts.0, identifier_below_128 cs parts.1)

pub identifier_ascii : (name : List ℕ) → is_identifier name ≡ true → AllByRecursion (λ c. c < 128) name
identifier_ascii name h = identifier_below_128 name (continue_all name h)
