-- Which bytes a character and a text are written as in a page.
use Rattle.std.specs.Prelude.{◌≡◌, ℕ, zero, suc, ◌/◌, ◌%◌, Bool, true, false, not, ◌&&◌, ◌==◌, nat_lt, List, []}
use Rattle.std.specs.Prelude.{◌∷◌, ◌++◌, map, length, Option, Some, None, is_some, is_none, option_map, position}
use Rattle.std.specs.Prelude.{unwrap_or, chars, slice_get, slice_set, slice_index_or, IsUtf8, ◌<◌, if◌then◌else◌}
use Rattle.msi_base.specs.Lists.{all_present}
use Rattle.msi_code_pages.specs.declared.page.Page.{Page}
use Rattle.msi_code_pages.specs.declared.page.Page.TheVariants as page
use Rattle.msi_code_pages.specs.Sequences.{character_of}
use Rattle.msi_code_pages.specs.Reading.{text_in}

-- the sequence of a number below 65,536: one byte, or two with the first as the higher
abbrev pub sequence_of : ℕ → List ℕ
sequence_of n = if nat_lt n 0x100 then n ∷ [] else n / 0x100 ∷ n % 0x100 ∷ []

-- which sequences are written; not those of NEC's selection of IBM's characters, and two numerals beside those among
-- the ideographs: another sequence stands for each of their characters
unfoldable pub is_written : Page → ℕ → Bool
is_written page.Windows932 n = not (n / 0x100 == 0xED) && not (n / 0x100 == 0xEE)
is_written page.Windows950 n = not (n == 0xA2CC) && not (n == 0xA2CE)
is_written _ n = true

-- what the sequence of a number stands for, where it is written
unfoldable pub written_character : Page → ℕ → Option ℕ
written_character page n = if is_written page n then character_of page (sequence_of n) else None

-- the option holds that character
abbrev pub holds : ℕ → Option ℕ → Bool
holds c None = false
holds c (Some d) = d == c

unfoldable pub spells : Page → ℕ → ℕ → Bool
spells page c n = holds c (written_character page n)

-- the least number below a bound that passes the test
unfoldable pub least : (ℕ → Bool) → ℕ → Option ℕ
least p zero = None
least p (suc n) = if is_some (least p n) then least p n else if p n then Some n else None

-- the first sequence, by its number, that is written and stands for the character; no page has characters past U+FFFF
unfoldable pub number_of : Page → ℕ → Option ℕ
number_of page c = if nat_lt c 0x10000 then least (spells page c) 0x10000 else None

abbrev pub bytes_of : Page → ℕ → Option (List ℕ)
bytes_of page c = option_map sequence_of (number_of page c)

-- lists after one another
abbrev pub joined : List (List ℕ) → List ℕ
joined [] = []
joined (s ∷ ss) = s ++ joined ss

-- the bytes of characters, where the page has each
unfoldable pub bytes_of_all : Page → List ℕ → Option (List ℕ)
bytes_of_all page cs = option_map (λ ns. joined (map sequence_of ns)) (all_present (map (number_of page) cs))

abbrev pub bytes_in : Page → List ℕ → Option (List ℕ)
bytes_in page text = bytes_of_all page (chars text)

-- how many characters stand before the first that the page lacks
abbrev pub first_missing : Page → List ℕ → Option ℕ
first_missing page text = position (λ c. is_none (number_of page c)) (chars text)

-- what is written where `?` stands for each character that the page lacks
abbrev pub number_written : Page → ℕ → ℕ
number_written page c = unwrap_or (number_of page c) 63

abbrev pub bytes_written : Page → List ℕ → List ℕ
bytes_written page cs = joined (map sequence_of (map (number_written page) cs))

-- Scaffolding: an index has for each character up to U+FFFF the first sequence, of those with numbers below n
pub record IsIndex (page : Page) (n : ℕ) (numbers : List (Option ℕ)) : Type 0 where
  pub size : length numbers ≡ 0x10000
  pub entries : (c : ℕ) → c < 0x10000 → slice_get numbers c ≡ Some (least (spells page c) n)

-- a place of an index with no number yet, and the index with a number there
abbrev pub is_free : List (Option ℕ) → ℕ → Bool
is_free numbers place = nat_lt place (length numbers) && is_none (slice_index_or numbers place None)

abbrev pub with_first : List (Option ℕ) → ℕ → ℕ → List (Option ℕ)
with_first numbers place n = if is_free numbers place then slice_set numbers place (Some n) else numbers

-- the text is written as the bytes
abbrev pub Writes : Page → List ℕ → List ℕ → Type 0
Writes page text bytes = bytes_in page text ≡ Some bytes

-- the bytes of a character stand for it
abbrev pub BytesStandForCharacters : Type 0
BytesStandForCharacters = (page : Page) (c : ℕ) (s : List ℕ) → bytes_of page c ≡ Some s → character_of page s ≡ Some c

-- a sequence's character, where it has bytes, is read from those bytes too
abbrev pub SequencesComeBack : Type 0
SequencesComeBack = (page : Page) (s again : List ℕ) (c : ℕ) → character_of page s ≡ Some c
    → bytes_of page c ≡ Some again → character_of page again ≡ character_of page s

-- a text that is written reads back
abbrev pub TextsComeBack : Type 0
TextsComeBack = (page : Page) (text bytes : List ℕ) → IsUtf8 text → Writes page text bytes
    → text_in page bytes ≡ Some text
