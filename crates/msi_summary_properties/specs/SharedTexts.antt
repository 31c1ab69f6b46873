-- The texts of a stream as pieces of one text, as which the stream is read.
use Rattle.std.specs.Prelude.{◌≡◌, ℕ, ◌+◌, ◌-◌, ◌<◌, ◌≤◌, ◌⊎◌, Bool, true, List, [], ◌∷◌, length, take, is_some}
use Rattle.std.specs.Prelude.{option_map, if◌then◌else◌, slice_index, slice_range}
use Rattle.std.specs.List.{AllByRecursion}
use Rattle.std.specs.Rc.{rc_str_bytes}
use Rattle.msi_base.specs.declared.codepage.CodePage.{CodePage}
use Rattle.msi_base.specs.declared.codepage.CodePage.TheVariants as page
use Rattle.msi_base.specs.Pages.{Reads, text_in}
use Rattle.msi_summary_properties.specs.Reading.{value_at}
use Rattle.msi_summary_properties.specs.declared.propset.PropertyValue.TheVariants.{LpStr}
use Rattle.msi_summary_properties.specs.declared.shared.SharedTexts.{SharedTexts}

-- whether any bytes are a text of the page
abbrev pub reads_any : CodePage → Bool
reads_any page = is_some (text_in page (0x80 ∷ []))

abbrev pub ReadsAll : CodePage → Type 0
ReadsAll page = (bytes : List ℕ) → is_some (text_in page bytes) ≡ true

-- the page that a stream is read in: for one that has ASCII alone it is US-ASCII, where other bytes read as U+FFFD
abbrev pub page_for_all : CodePage → CodePage
page_for_all p = if reads_any p then p else page.UsAscii

-- a byte where a character begins in each page, since it is ASCII or stands behind an ASCII byte
abbrev pub BeginsCharacter : List ℕ → ℕ → Type 0
BeginsCharacter bytes at = (0 < at) × (at < length bytes)
    × ((slice_index bytes (at - 1) < 0x80) ⊎ (slice_index bytes at < 0x80))

-- the bytes in front of `cut.0` read as the first `cut.1` bytes of the text
pub record IsCut (page : CodePage) (bytes whole : List ℕ) (cut : ℕ × ℕ) : Type 0 where
  pub begins : BeginsCharacter bytes cut.0
  pub short : cut.1 ≤ length whole
  pub reads : Reads page (take cut.0 bytes) (take cut.1 whole)

abbrev pub AreCuts : CodePage → List ℕ → SharedTexts → Type 0
AreCuts page bytes texts = AllByRecursion (IsCut page bytes (rc_str_bytes texts.whole)) texts.cuts.entries

-- the value that begins these bytes is a text of so many bytes, which stand behind its type and its length
pub record BeginsText (bytes : List ℕ) (len : ℕ) : Type 0 where
  pub within : 8 + len < length bytes
  pub value : (version : ℕ) (page : CodePage)
      → value_at version page bytes ≡ option_map LpStr (text_in page (slice_range bytes 8 (8 + len)))
