-- The stream of the summary whose texts are read in a page of any kind, and its set in UTF-8.
use Rattle.std.specs.Prelude.{◌≡◌, ℕ, ◌+◌, ◌*◌, ◌^◌, ◌<◌, ◌⊎◌, Bool, true, false, ◌==◌, if◌then◌else◌, nat_lt, List}
use Rattle.std.specs.Prelude.{◌++◌, ◌∷◌, [], drop, length, map, min, Option, Some, None, option_map}
use Rattle.std.specs.List.{AllZip, list_any}
use Rattle.std.specs.Int.{w16, w32, to_le_bytes, cast_unsigned}
use Rattle.msi_base.specs.declared.codepage.CodePage.TheVariants as page
use Rattle.msi_base.specs.declared.errors.ErrorKind.TheVariants as kind
use Rattle.msi_base.specs.Lists.{has_pair, entry_where}
use Rattle.msi_base.specs.Results.{◌>>=◌}
use Rattle.msi_summary_properties.specs.declared.propset.PropertyValue.{PropertyValue}
use Rattle.msi_summary_properties.specs.declared.propset.PropertyValue.TheVariants.{I2, LpStr}
use Rattle.msi_summary_properties.specs.Properties.{Properties, page_value, value_with_id}
use Rattle.msi_summary_properties.specs.PropertyStream.{FitsHeader, FitsFields, FitsValue, StandsAt, SpellsValue}
use Rattle.msi_summary_properties.specs.PropertyStream.{Spells, header_bytes, property_stream, section_head}
use Rattle.msi_summary_properties.specs.PropertyStream.{string_bytes_of}
use Rattle.msi_summary_properties.specs.PropertyWriting.{section_size}
use Rattle.msi_summary_properties.specs.Reading.{Header, header_at, section_at, value_at}
use Rattle.msi_recode.specs.declared.errors.RecodeError.{RecodeError}
use Rattle.msi_recode.specs.declared.errors.RecodeError.TheVariants as error
use Rattle.msi_recode.specs.declared.page.TextPage.{TextPage}
use Rattle.msi_recode.specs.declared.page.TextPage.TheVariants.{Plain}
use Rattle.msi_recode.specs.TextPages.{Reads, page_for}

-- a text, by any bytes that read as it in the page
abbrev pub SpellsString : TextPage → List ℕ → List ℕ → Type 0
SpellsString page bytes text =
    ((encoded : List ℕ) × (length encoded + 1 < 2 ^ 32) × Reads page encoded text × (bytes ≡ string_bytes_of encoded))
    ⊎ Reads page [] text × (bytes ≡ to_le_bytes w32 30 ++ to_le_bytes w32 0 ++ 0 ∷ [])

-- a value; one that is no text is spelled alike in every page
abbrev pub SpellsValueIn : ℕ → TextPage → List ℕ → PropertyValue → Type 0
SpellsValueIn version text_page bytes (LpStr text) = SpellsString text_page bytes text
SpellsValueIn version text_page bytes value = SpellsValue version page.Utf8 bytes value

-- the value of an id is spelled at its place, counted from the section
abbrev pub EntryStandsAt : ℕ → TextPage → List ℕ → ℕ → ℕ × ℕ → ℕ × PropertyValue → Type 0
EntryStandsAt version page bytes section pair entry = (entry.0 ≡ pair.0) × FitsValue entry.1
    × StandsAt (section + pair.1) bytes (λ front. SpellsValueIn version page front entry.1)

-- the page that property 1 names, which is the one that is given for 0; without it UTF-8
abbrev pub page_named : Option TextPage → Option PropertyValue → Option TextPage
page_named given None = Some (Plain page.Utf8)
page_named given (Some (I2 n)) = page_for given (cast_unsigned w16 n)
page_named given _ = None

-- the page that the value at this place names
abbrev pub page_stated : Option TextPage → ℕ → List ℕ → ℕ → Option ℕ → Option TextPage
page_stated given version bytes section None = page_named given None
page_stated given version bytes section (Some place) =
    value_at version page.Utf8 (drop (section + place) bytes) >>= λ v. page_named given (Some v)

-- a value of a set in UTF-8: property 1 names that page
abbrev pub in_utf8 : ℕ → PropertyValue → PropertyValue
in_utf8 id value = if id == 1 then page_value page.Utf8 else value

-- the bytes are the stream of a summary, which has these properties in UTF-8. Its texts are read in the page that
-- property 1 names
pub record IsSummary (given : Option TextPage) (bytes : List ℕ) (set : Properties) : Type 0 where
  pub version : ℕ
  pub reserved : ℕ
  pub section : ℕ
  pub size : ℕ
  pub pairs : List (ℕ × ℕ)
  pub entries : List (ℕ × PropertyValue)
  pub page : TextPage
  pub held : FitsHeader set
  pub fits : FitsFields version reserved section size pairs
  pub header : StandsAt 0 bytes (λ front. front ≡ header_bytes set version reserved section)
  pub head : StandsAt section bytes (λ front. front ≡ section_head size pairs)
  pub once : has_pair (λ p q. p.0 == q.0) pairs ≡ false
  pub spelled : AllZip (EntryStandsAt version page bytes section) pairs entries
  pub named : page_named given (entry_where (λ k. k == 1) entries) ≡ Some page
  pub values : (id : ℕ) → value_with_id id set.values ≡ option_map (in_utf8 id) (entry_where (λ k. k == id) entries)

-- the bytes are no stream of a summary, or its page doesn't read a text
abbrev pub HasNoSummary : Option TextPage → List ℕ → Type 0
HasNoSummary given bytes = (set : Properties) → IsSummary given bytes set → ⊥

-- the same values, as they are in UTF-8
abbrev pub all_in_utf8 : List (ℕ × PropertyValue) → List (ℕ × PropertyValue)
all_in_utf8 entries = map (λ e. (e.0, in_utf8 e.0 e.1)) entries

-- how many bytes the stream of these values has in UTF-8: the header has 48
abbrev pub stream_size : List (ℕ × PropertyValue) → ℕ
stream_size entries = 48 + section_size page.Utf8 (all_in_utf8 entries)

-- how many bytes a stream of n bytes may have in UTF-8. A byte of any page reads as at most three, so only values that
-- overlap have more than four times as many. No file holds a stream of more than 2^31
abbrev pub most_size : ℕ → ℕ
most_size n = min (2 ^ 31) (4 * n + 65536)

-- these values of a stream of n bytes are too long in UTF-8
abbrev pub is_too_long : ℕ → List (ℕ × PropertyValue) → Bool
is_too_long n entries = nat_lt (most_size n) (stream_size entries)

-- the bytes after are the plain spelling of the set that the bytes before have, in UTF-8
abbrev pub IsSummaryRecoded : Option TextPage → List ℕ → List ℕ → Type 0
IsSummaryRecoded given before after = (set : Properties) × (summary : IsSummary given before set)
    × (is_too_long (length before) summary.entries ≡ false) × (property_stream set ≡ Some after) × Spells after set

-- the bytes have this header, list these places by their ids, and name this page of the texts
abbrev pub IsListed : Option TextPage → List ℕ → Header → List (ℕ × ℕ) → TextPage → Type 0
IsListed given bytes head pairs page =
    (header_at bytes ≡ Some head) × (section_at (drop head.section bytes) ≡ Some pairs)
    × (page_stated given head.version bytes head.section (entry_where (λ k. k == 1) pairs) ≡ Some page)

-- the bytes have no header, list no places, or name no known page
abbrev pub ListsNothing : Option TextPage → List ℕ → Type 0
ListsNothing given bytes = (head : Header) (pairs : List (ℕ × ℕ)) (page : TextPage)
    → IsListed given bytes head pairs page → ⊥

-- the values of these pairs are spelled in the page, and no id is listed twice
abbrev pub AreSpelled : ℕ → TextPage → List ℕ → ℕ → List (ℕ × ℕ) → List (ℕ × PropertyValue) → Type 0
AreSpelled version page bytes section pairs entries = AllZip (EntryStandsAt version page bytes section) pairs entries
    × (has_pair (λ p q. p.0 == q.0) pairs ≡ false)

-- this id is that of the first pair whose value isn't spelled in the page, or whose id is listed before; those in front
-- of it aren't too long
pub record IsFirstUnread (version : ℕ) (page : TextPage) (bytes : List ℕ) (section : ℕ) (pairs : List (ℕ × ℕ)) (id : ℕ)
    : Type 0 where
  pub front : List (ℕ × ℕ)
  pub place : ℕ
  pub behind : List (ℕ × ℕ)
  pub listed : pairs ≡ front ++ (id, place) ∷ behind
  pub entries : List (ℕ × PropertyValue)
  pub spelled : AreSpelled version page bytes section front entries
  pub short : is_too_long (length bytes) entries ≡ false
  pub fails : ((value : PropertyValue) → EntryStandsAt version page bytes section (id, place) (id, value) → ⊥)
      ⊎ (list_any (λ p. p.0 == id) front ≡ true)

-- the values of the first pairs are spelled in the page, and are too long
pub record AreTooLong (version : ℕ) (page : TextPage) (bytes : List ℕ) (section : ℕ) (pairs : List (ℕ × ℕ))
    : Type 0 where
  pub front : List (ℕ × ℕ)
  pub behind : List (ℕ × ℕ)
  pub listed : pairs ≡ front ++ behind
  pub entries : List (ℕ × PropertyValue)
  pub spelled : AreSpelled version page bytes section front entries
  pub long : is_too_long (length bytes) entries ≡ true

-- an error of the values: memory, the first that isn't read, or that they are too long
abbrev pub IsValuesError : ℕ → TextPage → List ℕ → ℕ → List (ℕ × ℕ) → RecodeError → Type 0
IsValuesError version page bytes section pairs err =
    (err ≡ error.Package kind.OutOfMemory)
    ⊎ ((id : ℕ) × (err ≡ error.Property id kind.InvalidData) × IsFirstUnread version page bytes section pairs id)
    ⊎ (err ≡ error.Package kind.InvalidInput) × AreTooLong version page bytes section pairs

-- an error of the summary: memory, that nothing is listed, or one of its values
abbrev pub IsSummaryError : Option TextPage → List ℕ → RecodeError → Type 0
IsSummaryError given bytes err =
    (err ≡ error.Package kind.OutOfMemory)
    ⊎ (err ≡ error.Package kind.InvalidData) × ListsNothing given bytes
    ⊎ ((head : Header) × (pairs : List (ℕ × ℕ)) × (page : TextPage) × IsListed given bytes head pairs page
    × IsValuesError head.version page bytes head.section pairs err)
