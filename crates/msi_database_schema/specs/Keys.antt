-- The names of a package's streams in its container.
use Rattle.std.specs.Prelude.{ℕ, Bool, true, false, not, List, ◌∷◌, nat_le, ◌&&◌, ◌||◌, chars, codes, bytes_eq}
use Rattle.msi_categories.specs.CategoryRules.{is_identifier}
use Rattle.msi_container_format.specs.Names.{utf16_units}
use Rattle.msi_container_format.specs.StreamNames.{encoded_name, encoded_units, is_valid_name}

-- what may name a stream, and what may name a table
abbrev pub is_stream_name : List ℕ → Bool
is_stream_name text = is_valid_name false (chars text)

abbrev pub string_pool_name : List ℕ
string_pool_name = codes "_StringPool"

abbrev pub string_data_name : List ℕ
string_data_name = codes "_StringData"

abbrev pub is_pool_name : List ℕ → Bool
is_pool_name text = bytes_eq text string_pool_name || bytes_eq text string_data_name

abbrev pub is_table_name : List ℕ → Bool
is_table_name text = is_identifier text && nat_le (encoded_units true (chars text)) 31 && not (is_pool_name text)

-- the container's name of a stream, of a table's stream, and the names that aren't packed
abbrev pub stream_key : List ℕ → List ℕ
stream_key text = utf16_units (encoded_name false (chars text))

abbrev pub table_key : List ℕ → List ℕ
table_key text = utf16_units (encoded_name true (chars text))

abbrev pub summary_key : List ℕ
summary_key = 5 ∷ codes "SummaryInformation"

abbrev pub document_summary_key : List ℕ
document_summary_key = 5 ∷ codes "DocumentSummaryInformation"

abbrev pub signature_key : List ℕ
signature_key = 5 ∷ codes "DigitalSignature"

abbrev pub signature_ex_key : List ℕ
signature_ex_key = 5 ∷ codes "MsiDigitalSignatureEx"
