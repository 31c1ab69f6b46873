-- The names of tables, and the container's names of their streams.
use Rattle.std.proofs.Common.{◌≡◌, ℕ, ◌<◌, suc, zero, Bool, true, false, not, ◌&&◌, List, [], ◌∷◌, Some, chars, None, refl, ap, ◌∙◌, arith}
use Rattle.std.proofs.lemmas.Bool.{and_parts}
use Rattle.std.proofs.lemmas.Str.{IsUtf8-from_ascii, encodes-chars, scalars-chars}
use Rattle.std.specs.Char.Utf16.{utf16_lossy_chars}
use Rattle.std.specs.Cmp.Lexicographic.{bytes_decides}
use Rattle.std.specs.List.{AllByRecursion}
use Rattle.std.specs.Prelude.{bytes_eq, encode_utf8_all, if◌then◌else◌, nat_le}
use Rattle.std.specs.Str.{IsAscii, IsUtf8}
use Rattle.msi_categories.specs.CategoryRules.{is_identifier}
use Rattle.msi_container_format.specs.Names.{named}
use Rattle.msi_container_format.specs.StreamNames.{decoded_name, encoded_name, encoded_units}
use Rattle.msi_container_format.proofs.AcceptedNamesLemmas.{accepted_is}
use Rattle.msi_container_format.proofs.PackedNamesLemmas.{encoded_scalars}
use Rattle.msi_container_format.proofs.SpelledUnitsLemmas.{units_spell}
use Rattle.msi_container_format.proofs.UnpackingLemmas.{name_back}
use Rattle.msi_database_schema.specs.Keys.{is_pool_name, is_table_name, string_data_name, string_pool_name, table_key}
use Rattle.msi_database_schema.proofs.KeyLemmas.{identifier_ascii, table_key_is_name, table_name_is}
use Rattle.msi_database_schema.proofs.NamesLemmas.{valid_if_short}
use Rattle.msi_transform.specs.StoredPools.{data_key, pool_key}
use Rattle.msi_transform.specs.TransformFiles.{is_records_key, is_table_key, text_of_key}

ascii : (cs : List ℕ) → AllByRecursion (λ c. c < 128) cs → IsAscii cs
ascii [] h i = omega arith
ascii (c ∷ cs) h zero = h.0
ascii (c ∷ cs) h (suc i) = ascii cs h.1 i

-- a short identifier comes back from its key
short_back : (name : List ℕ) → is_identifier name ≡ true → (is_identifier name && nat_le (encoded_units true (chars name)) 31) ≡ true → text_of_key (table_key name) ≡ name
short_back name identifier short =
    let utf8 : IsUtf8 name = IsUtf8-from_ascii name (ascii name (identifier_ascii name identifier)) in
    let units : utf16_lossy_chars (table_key name) ≡ encoded_name true (chars name) =
    units_spell (encoded_name true (chars name)) (encoded_scalars true (chars name) (scalars-chars name utf8)) in
    let accepted = accepted_is true (chars name) (valid_if_short name identifier ∙ short) in
    ap (λ cs. encode_utf8_all (decoded_name cs).0) units
    ∙ ap (λ (p : List ℕ × Bool). encode_utf8_all p.0) (name_back true (chars name) accepted.unmarked accepted.allowed) ∙ encodes-chars name utf8

key_passes : (name : List ℕ) → text_of_key (table_key name) ≡ name → is_table_key (table_key name) ≡ true
key_passes name back = ap (λ t. bytes_eq (table_key t) (table_key name)) back ∙ (bytes_decides (table_key name) (table_key name)).1 refl

-- so do the names of tables, whose streams are those of records
pub table_back : (name : List ℕ) → is_table_name name ≡ true → text_of_key (table_key name) ≡ name
table_back name h = short_back name (table_name_is name h).identifier (and_parts _ _ h).0

pub table_passes : (name : List ℕ) → is_table_name name ≡ true → is_table_key (table_key name) ≡ true
table_passes name h = key_passes name (table_back name h)

pub records_pass : (name : List ℕ) → is_table_name name ≡ true → is_records_key (table_key name) ≡ true
records_pass name h =
    ap (λ b. b && not (is_pool_name (text_of_key (table_key name)))) (table_passes name h)
    ∙ ap (λ t. not (is_pool_name t)) (table_back name h) ∙ ap not (table_name_is name h).no_pool

pub table_named : (name : List ℕ) → is_table_name name ≡ true → named (table_key name) ≡ Some (table_key name)
table_named name h = ap (λ b. if b then Some (table_key name) else None) (table_key_is_name name h)

-- the pool's streams are those of tables, and not of records
pool_short : (is_identifier string_pool_name && nat_le (encoded_units true (chars string_pool_name)) 31) ≡ true
unfolding Rattle.std.specs.Str.chars
pool_short = refl

data_short : (is_identifier string_data_name && nat_le (encoded_units true (chars string_data_name)) 31) ≡ true
unfolding Rattle.std.specs.Str.chars
data_short = refl

pool_back : text_of_key pool_key ≡ string_pool_name
pool_back = short_back string_pool_name refl pool_short

data_back : text_of_key data_key ≡ string_data_name
data_back = short_back string_data_name refl data_short

pub pool_passes : is_table_key pool_key ≡ true
pool_passes = key_passes string_pool_name pool_back

pub data_passes : is_table_key data_key ≡ true
data_passes = key_passes string_data_name data_back

pub pool_no_records : is_records_key pool_key ≡ false
pool_no_records = ap (λ b. b && not (is_pool_name (text_of_key pool_key))) pool_passes ∙ ap (λ t. not (is_pool_name t)) pool_back

pub data_no_records : is_records_key data_key ≡ false
data_no_records = ap (λ b. b && not (is_pool_name (text_of_key data_key))) data_passes ∙ ap (λ t. not (is_pool_name t)) data_back
