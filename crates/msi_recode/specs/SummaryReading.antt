-- Scaffolding of proofs: how the summary's stream is read, one step after the other. What it holds stands in
-- `SummaryRecoding`.
use Rattle.std.specs.Prelude.{◌≡◌, ℕ, ◌+◌, ◌-◌, ◌==◌, false, true, Bool, List, Option, Some, None, option_map}
use Rattle.std.specs.Prelude.{◌⊎◌, is_some, drop, length}
use Rattle.std.specs.List.{AllZip}
use Rattle.std.specs.Int.{w32}
use Rattle.msi_base.specs.declared.codepage.CodePage.TheVariants as page
use Rattle.msi_base.specs.Lists.{has_pair, entry_where}
use Rattle.msi_base.specs.Numbers.{number_at, bytes_at}
use Rattle.msi_base.specs.Results.{◌>>=◌}
use Rattle.msi_summary_properties.specs.declared.propset.PropertyValue.{PropertyValue}
use Rattle.msi_summary_properties.specs.declared.propset.PropertyValue.TheVariants.{LpStr}
use Rattle.msi_summary_properties.specs.Properties.{Properties, set_of, value_with_id, with_value}
use Rattle.msi_summary_properties.specs.PropertyWriting.{piece_in, section_size}
use Rattle.msi_summary_properties.specs.Reading.{value_at}
use Rattle.msi_recode.specs.declared.page.TextPage.{TextPage}
use Rattle.msi_recode.specs.TextPages.{text_in}
use Rattle.msi_recode.specs.SummaryRecoding.{all_in_utf8, in_utf8, is_too_long}

-- the bytes of the text that stands here behind the number of its type and its length
unfoldable pub piece_at : List ℕ → Option (List ℕ)
piece_at bytes = do
  kind ← number_at w32 bytes
  count ← number_at w32 kind.1
  front ← bytes_at (count.0 - 1) count.1
  Some front.0

abbrev pub is_text : PropertyValue → Bool
is_text (LpStr text) = true
is_text _ = false

-- a value as it is read in the page
abbrev pub in_page : TextPage → List ℕ → PropertyValue → Option PropertyValue
in_page page bytes (LpStr text) = option_map LpStr (piece_at bytes >>= text_in page)
in_page page bytes value = Some value

unfoldable pub value_in : ℕ → TextPage → List ℕ → Option PropertyValue
value_in version text_page bytes = value_at version page.Utf8 bytes >>= in_page text_page bytes

-- the value of a pair is read so
abbrev pub IsEntryRead : ℕ → TextPage → List ℕ → ℕ → ℕ × ℕ → ℕ × PropertyValue → Type 0
IsEntryRead version page bytes section pair entry =
    (entry.0 ≡ pair.0) × (value_in version page (drop (section + pair.1) bytes) ≡ Some entry.1)

-- the value in front is put into a set in UTF-8
abbrev pub IsPutIn : ℕ → TextPage → List ℕ → ℕ → Properties → Properties → Type 0
IsPutIn version page bytes id before after = (value : PropertyValue)
    × (value_in version page bytes ≡ Some value) × (after ≡ with_value id (in_utf8 id value) before)

-- the values of these pairs are put into a set without values
pub record ArePut (version : ℕ) (text_page : TextPage) (bytes : List ℕ) (section : ℕ) (pairs : List (ℕ × ℕ))
    (before after : Properties) : Type 0 where
  pub entries : List (ℕ × PropertyValue)
  pub read : AllZip (IsEntryRead version text_page bytes section) pairs entries
  pub once : has_pair (λ p q. p.0 == q.0) pairs ≡ false
  pub same : after ≡ set_of before.os before.os_version before.clsid before.format_identifier after.values
  pub values : (id : ℕ) → value_with_id id after.values ≡ option_map (in_utf8 id) (entry_where (λ k. k == id) entries)
  pub size : section_size page.Utf8 after.values ≡ section_size page.Utf8 (all_in_utf8 entries)

-- a value that isn't put in: it isn't read, or there is one of this id
abbrev pub IsNotPut : ℕ → TextPage → List ℕ → ℕ → Properties → Type 0
IsNotPut version page bytes id before =
    (value_in version page bytes ≡ None) ⊎ (is_some (value_with_id id before.values) ≡ true)

-- the values of these pairs aren't read, or an id is listed twice
abbrev pub CannotBePut : ℕ → TextPage → List ℕ → ℕ → List (ℕ × ℕ) → Type 0
CannotBePut version page bytes section pairs = (entries : List (ℕ × PropertyValue))
    → AllZip (IsEntryRead version page bytes section) pairs entries → has_pair (λ p q. p.0 == q.0) pairs ≡ true

-- the values of these pairs are read, no id is listed twice, and they aren't too long
pub record CanBePut (version : ℕ) (page : TextPage) (bytes : List ℕ) (section : ℕ) (pairs : List (ℕ × ℕ)) : Type 0 where
  pub entries : List (ℕ × PropertyValue)
  pub read : AllZip (IsEntryRead version page bytes section) pairs entries
  pub once : has_pair (λ p q. p.0 == q.0) pairs ≡ false
  pub short : is_too_long (length bytes) entries ≡ false

-- the value in front is read, and has so many bytes in UTF-8 with its padding
abbrev pub IsCounted : ℕ → TextPage → List ℕ → ℕ → ℕ → Type 0
IsCounted version text_page bytes id len = (value : PropertyValue)
    × (value_in version text_page bytes ≡ Some value) × (len ≡ length (piece_in page.Utf8 (in_utf8 id value)))

-- a value that isn't read, or whose id is among the earlier ones
abbrev pub IsNotCounted : ℕ → TextPage → List ℕ → Bool → Type 0
IsNotCounted version page bytes there = (value_in version page bytes ≡ None) ⊎ (there ≡ true)
