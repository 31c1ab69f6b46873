-- The tables of the code pages that have one byte for a character.
use Rattle.std.specs.Prelude.{◌≡◌, ◌↔◌, ℕ, ◌+◌, ◌-◌, List, [], ◌∷◌, Option, Some, None, option_map, unwrap_or, position}
use Rattle.std.specs.Prelude.{slice_get, nat_lt, ◌==◌, if◌then◌else◌}
use Rattle.msi_base.specs.declared.codepage.CodePage.{CodePage}
use Rattle.msi_base.specs.declared.codepage.CodePage.TheVariants as page
use Rattle.msi_base.specs.Lists.{numbers_from}

-- Windows-1252 from byte 0x80 on; 0x81, 0x8D, 0x8F, 0x90 and 0x9D stand for the control characters of their numbers
unfoldable pub windows_1252 : List ℕ
windows_1252 =
    0x20AC ∷ 0x0081 ∷ 0x201A ∷ 0x0192 ∷ 0x201E ∷ 0x2026 ∷ 0x2020 ∷ 0x2021
    ∷ 0x02C6 ∷ 0x2030 ∷ 0x0160 ∷ 0x2039 ∷ 0x0152 ∷ 0x008D ∷ 0x017D ∷ 0x008F
    ∷ 0x0090 ∷ 0x2018 ∷ 0x2019 ∷ 0x201C ∷ 0x201D ∷ 0x2022 ∷ 0x2013 ∷ 0x2014
    ∷ 0x02DC ∷ 0x2122 ∷ 0x0161 ∷ 0x203A ∷ 0x0153 ∷ 0x009D ∷ 0x017E ∷ 0x0178
    ∷ numbers_from 0xA0 96

-- Mac OS Roman from byte 0x80 on
unfoldable pub macintosh_roman : List ℕ
macintosh_roman =
    0x00C4 ∷ 0x00C5 ∷ 0x00C7 ∷ 0x00C9 ∷ 0x00D1 ∷ 0x00D6 ∷ 0x00DC ∷ 0x00E1
    ∷ 0x00E0 ∷ 0x00E2 ∷ 0x00E4 ∷ 0x00E3 ∷ 0x00E5 ∷ 0x00E7 ∷ 0x00E9 ∷ 0x00E8
    ∷ 0x00EA ∷ 0x00EB ∷ 0x00ED ∷ 0x00EC ∷ 0x00EE ∷ 0x00EF ∷ 0x00F1 ∷ 0x00F3
    ∷ 0x00F2 ∷ 0x00F4 ∷ 0x00F6 ∷ 0x00F5 ∷ 0x00FA ∷ 0x00F9 ∷ 0x00FB ∷ 0x00FC
    ∷ 0x2020 ∷ 0x00B0 ∷ 0x00A2 ∷ 0x00A3 ∷ 0x00A7 ∷ 0x2022 ∷ 0x00B6 ∷ 0x00DF
    ∷ 0x00AE ∷ 0x00A9 ∷ 0x2122 ∷ 0x00B4 ∷ 0x00A8 ∷ 0x2260 ∷ 0x00C6 ∷ 0x00D8
    ∷ 0x221E ∷ 0x00B1 ∷ 0x2264 ∷ 0x2265 ∷ 0x00A5 ∷ 0x00B5 ∷ 0x2202 ∷ 0x2211
    ∷ 0x220F ∷ 0x03C0 ∷ 0x222B ∷ 0x00AA ∷ 0x00BA ∷ 0x03A9 ∷ 0x00E6 ∷ 0x00F8
    ∷ 0x00BF ∷ 0x00A1 ∷ 0x00AC ∷ 0x221A ∷ 0x0192 ∷ 0x2248 ∷ 0x2206 ∷ 0x00AB
    ∷ 0x00BB ∷ 0x2026 ∷ 0x00A0 ∷ 0x00C0 ∷ 0x00C3 ∷ 0x00D5 ∷ 0x0152 ∷ 0x0153
    ∷ 0x2013 ∷ 0x2014 ∷ 0x201C ∷ 0x201D ∷ 0x2018 ∷ 0x2019 ∷ 0x00F7 ∷ 0x25CA
    ∷ 0x00FF ∷ 0x0178 ∷ 0x2044 ∷ 0x20AC ∷ 0x2039 ∷ 0x203A ∷ 0xFB01 ∷ 0xFB02
    ∷ 0x2021 ∷ 0x00B7 ∷ 0x201A ∷ 0x201E ∷ 0x2030 ∷ 0x00C2 ∷ 0x00CA ∷ 0x00C1
    ∷ 0x00CB ∷ 0x00C8 ∷ 0x00CD ∷ 0x00CE ∷ 0x00CF ∷ 0x00CC ∷ 0x00D3 ∷ 0x00D4
    ∷ 0xF8FF ∷ 0x00D2 ∷ 0x00DA ∷ 0x00DB ∷ 0x00D9 ∷ 0x0131 ∷ 0x02C6 ∷ 0x02DC
    ∷ 0x00AF ∷ 0x02D8 ∷ 0x02D9 ∷ 0x02DA ∷ 0x00B8 ∷ 0x02DD ∷ 0x02DB ∷ 0x02C7 ∷ []

-- what the bytes from 0x80 on stand for; none in the pages whose tables are not here, and in UTF-8
abbrev pub upper_characters : CodePage → Option (List ℕ)
upper_characters page.UsAscii = Some []
upper_characters page.Windows1252 = Some windows_1252
upper_characters page.Iso88591 = Some windows_1252
upper_characters page.MacintoshRoman = Some macintosh_roman
upper_characters _ = None

-- the character that a byte stands for, and the byte that stands for a character
abbrev pub character_of : List ℕ → ℕ → Option ℕ
character_of upper b = if nat_lt b 0x80 then Some b else slice_get upper (b - 0x80)

abbrev pub byte_of : List ℕ → ℕ → Option ℕ
byte_of upper c = if nat_lt c 0x80 then Some c else option_map (λ i. 0x80 + i) (position (λ d. d == c) upper)

-- what is read for a byte: U+FFFD where it stands for no character
abbrev pub character_read : List ℕ → ℕ → ℕ
character_read upper b = unwrap_or (character_of upper b) 0xFFFD

-- what is written for a character: `?` where no byte stands for it
abbrev pub byte_written : List ℕ → ℕ → ℕ
byte_written upper c = unwrap_or (byte_of upper c) 63

-- a byte stands for a character exactly where the character is spelled by that byte; so no two bytes stand for the same
-- one
abbrev pub PageTablesAgree : Type 0
PageTablesAgree = (page : CodePage) (upper : List ℕ) → upper_characters page ≡ Some upper
    → (b c : ℕ) → (character_of upper b ≡ Some c) ↔ (byte_of upper c ≡ Some b)
