-- Which one or two bytes stand for which character.
use Rattle.std.specs.Prelude.{ℕ, ◌+◌, ◌-◌, ◌*◌, Bool, nat_lt, ◌||◌, List, [], ◌∷◌, Option, Some, None, is_some}
use Rattle.std.specs.Prelude.{option_and_then, slice_get, if◌then◌else◌}
use Rattle.std.specs.Str.{chars}
use Rattle.msi_code_pages.specs.declared.page.Page.{Page}
use Rattle.msi_code_pages.specs.declared.page.Page.TheVariants as page
use Rattle.msi_code_pages.specs.Tables.{page_text}

-- the row of a byte among those from a first to a last one, where the first has this row
abbrev pub row_among : ℕ → ℕ → ℕ → ℕ → Option ℕ
row_among first last row b = if nat_lt b first || nat_lt last b then None else Some (row + (b - first))

-- the row of the pairs that begin with a byte, where pairs do
unfoldable pub row_of : Page → ℕ → Option ℕ
row_of page.Windows932 b = if nat_lt b 0xA0 then row_among 0x81 0x9F 0 b else row_among 0xE0 0xFC 31 b
row_of page.Windows936 b = row_among 0x81 0xFE 0 b
row_of page.Windows949 b = row_among 0x81 0xFD 0 b
row_of page.Windows950 b = row_among 0xA1 0xF9 0 b
row_of _ b = None

-- the byte is the first of two
abbrev pub is_lead : Page → ℕ → Bool
is_lead page b = is_some (row_of page b)

-- in a page's text an ASCII character fills a place that stands for nothing
abbrev pub past_ascii : Option ℕ → Option ℕ
past_ascii None = None
past_ascii (Some c) = if nat_lt c 0x80 then None else Some c

-- the character at a place of the page's text
unfoldable pub character_at : Page → ℕ → Option ℕ
character_at page place = past_ascii (slice_get (chars (page_text page)) place)

-- what a byte stands for alone
abbrev pub character_alone : Page → ℕ → Option ℕ
character_alone page b = if nat_lt b 0x80 then Some b else character_at page (b - 0x80)

-- what a row's pair with this second byte stands for
unfoldable pub character_in_row : Page → ℕ → ℕ → Option ℕ
character_in_row page second row =
    if nat_lt second 0x40 then None else character_at page (128 + 192 * row + (second - 0x40))

-- what a sequence of bytes stands for
abbrev pub character_of : Page → List ℕ → Option ℕ
character_of page (b ∷ []) = if is_lead page b then None else character_alone page b
character_of page (first ∷ second ∷ []) = option_and_then (character_in_row page second) (row_of page first)
character_of page _ = None
