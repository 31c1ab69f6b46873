-- The streams beside its tables that a package lists, by the units of their names in the container.
use Rattle.std.specs.Prelude.{◌≡◌, ℕ, ◌<◌, Bool, not, ◌||◌, List, [], ◌∷◌, map, filter, length, bytes_eq}
use Rattle.std.specs.Prelude.{encode_utf8_all, string_bytes, Option, Some, None, Result, Ok, Err, String}
use Rattle.std.specs.Char.Utf16.{utf16_lossy_chars}
use Rattle.msi_base.specs.declared.errors.ErrorKind.{ErrorKind}
use Rattle.msi_base.specs.declared.errors.ErrorKind.TheVariants.{OutOfMemory}
use Rattle.msi_container_format.specs.StreamNames.{decoded_name, is_marked}
use Rattle.msi_database_schema.specs.Keys.{document_summary_key, signature_ex_key, signature_key, summary_key}

-- one of the summaries and signatures
abbrev pub is_special : List ℕ → Bool
is_special name = bytes_eq name summary_key || bytes_eq name document_summary_key
    || bytes_eq name signature_key || bytes_eq name signature_ex_key

-- neither a table's nor one of those
abbrev pub is_listed : List ℕ → Bool
is_listed name = not (is_marked name || is_special name)

-- the text that a name stands for
abbrev pub text_of_key : List ℕ → List ℕ
text_of_key name = encode_utf8_all (decoded_name (utf16_lossy_chars name)).0

abbrev pub listed_names : List (List ℕ) → List (List ℕ)
listed_names names = map text_of_key (filter is_listed names)

-- The first name is given and the others are left; or, where memory is refused, none is left; or there was none.
abbrev pub GivesName : {Z : Type 0} → List (List ℕ) → Option (Result (String Z) ErrorKind) → List (List ℕ) → Type 0
GivesName before None after = (before ≡ []) × (after ≡ [])
GivesName before (Some (Ok name)) after = before ≡ string_bytes name ∷ after
GivesName before (Some (Err kind)) after = (kind ≡ OutOfMemory) × (0 < length before) × (after ≡ [])
