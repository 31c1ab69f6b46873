-- Code pages: which bytes and which texts stand for each other.
-- Utf8 is Table 3-7 of the Unicode Standard; the others have one byte for a character.
use Rattle.std.specs.Prelude.{◌≡◌, ℕ, ℤ, pos, negsuc, Bool, true, List, [], ◌∷◌, map, Option, Some, None, is_some}
use Rattle.std.specs.Prelude.{option_and_then, IsUtf8, chars, encode_utf8_all, codes, nat_lt, ◌==◌, if◌then◌else◌, find}
use Rattle.std.specs.List.{list_all}
use Rattle.bstr.specs.Utf8.{lossy_chars}
use Rattle.msi_base.specs.declared.codepage.CodePage.{CodePage}
use Rattle.msi_base.specs.declared.codepage.CodePage.TheVariants as page
use Rattle.msi_base.specs.PageTables.{upper_characters, character_of, byte_of, character_read, byte_written}

abbrev pub is_ascii : List ℕ → Bool
is_ascii bytes = list_all (λ b. nat_lt b 0x80) bytes

-- a text is its bytes in UTF-8, as a `String` is. What bytes read as where these characters stand from byte 0x80 on; in
-- a page without a table ASCII alone
abbrev pub single_byte_text : Option (List ℕ) → List ℕ → Option (List ℕ)
single_byte_text (Some upper) bytes = Some (encode_utf8_all (map (character_read upper) bytes))
single_byte_text None bytes = if is_ascii bytes then Some bytes else None

-- in UTF-8 there is U+FFFD for each maximal part that spells no character
abbrev pub text_in : CodePage → List ℕ → Option (List ℕ)
text_in page.Utf8 bytes = Some (encode_utf8_all (lossy_chars bytes))
text_in page bytes = single_byte_text (upper_characters page) bytes

-- how a text is spelled
abbrev pub single_byte_spelling : Option (List ℕ) → List ℕ → Option (List ℕ)
single_byte_spelling (Some upper) text = Some (map (byte_written upper) (chars text))
single_byte_spelling None text = if is_ascii text then Some text else None

abbrev pub bytes_in : CodePage → List ℕ → Option (List ℕ)
bytes_in page.Utf8 text = Some text
bytes_in page text = single_byte_spelling (upper_characters page) text

-- the bytes read as the text; the text is spelled by the bytes
abbrev pub Reads : CodePage → List ℕ → List ℕ → Type 0
Reads page bytes text = text_in page bytes ≡ Some text

abbrev pub Writes : CodePage → List ℕ → List ℕ → Type 0
Writes page text bytes = bytes_in page text ≡ Some bytes

-- what is written of the text reads as the text
abbrev pub IsWritable : CodePage → List ℕ → Type 0
IsWritable page text = option_and_then (text_in page) (bytes_in page text) ≡ Some text

-- a text whose characters all have a place in the page's table is written so that it reads back
abbrev pub PageTextsComeBack : Type 0
PageTextsComeBack = (page : CodePage) (upper text : List ℕ) → upper_characters page ≡ Some upper → IsUtf8 text
    → list_all (λ c. is_some (byte_of upper c)) (chars text) ≡ true → IsWritable page text

-- in UTF-8 every text is written so that it reads back
abbrev pub Utf8TextsComeBack : Type 0
Utf8TextsComeBack = (text : List ℕ) → IsUtf8 text → IsWritable page.Utf8 text

-- in each page ASCII is written as its own bytes, which are read as it
abbrev pub AsciiStandsForItself : Type 0
AsciiStandsForItself = (page : CodePage) (text : List ℕ) → is_ascii text ≡ true
    → Writes page text text × Reads page text text

-- bytes that all stand for characters spell the text that they read as
abbrev pub PageBytesComeBack : Type 0
PageBytesComeBack = (page : CodePage) (upper bytes text : List ℕ) → upper_characters page ≡ Some upper
    → list_all (λ b. is_some (character_of upper b)) bytes ≡ true → Reads page bytes text → Writes page text bytes

-- the ids (MSI SDK, "Code Page Handling")
abbrev pub page_id : CodePage → ℕ
page_id page.Windows932 = 932
page_id page.Windows936 = 936
page_id page.Windows949 = 949
page_id page.Windows950 = 950
page_id page.Windows951 = 951
page_id page.Windows1250 = 1250
page_id page.Windows1251 = 1251
page_id page.Windows1252 = 1252
page_id page.Windows1253 = 1253
page_id page.Windows1254 = 1254
page_id page.Windows1255 = 1255
page_id page.Windows1256 = 1256
page_id page.Windows1257 = 1257
page_id page.Windows1258 = 1258
page_id page.MacintoshRoman = 10000
page_id page.MacintoshCyrillic = 10007
page_id page.UsAscii = 20127
page_id page.Iso88591 = 28591
page_id page.Iso88592 = 28592
page_id page.Iso88593 = 28593
page_id page.Iso88594 = 28594
page_id page.Iso88595 = 28595
page_id page.Iso88596 = 28596
page_id page.Iso88597 = 28597
page_id page.Iso88598 = 28598
page_id page.Utf8 = 65001

abbrev pub all_pages : List CodePage
all_pages = page.Windows932 ∷ page.Windows936 ∷ page.Windows949 ∷ page.Windows950 ∷ page.Windows951
    ∷ page.Windows1250 ∷ page.Windows1251 ∷ page.Windows1252 ∷ page.Windows1253
    ∷ page.Windows1254 ∷ page.Windows1255 ∷ page.Windows1256 ∷ page.Windows1257 ∷ page.Windows1258
    ∷ page.MacintoshRoman ∷ page.MacintoshCyrillic ∷ page.UsAscii
    ∷ page.Iso88591 ∷ page.Iso88592 ∷ page.Iso88593 ∷ page.Iso88594 ∷ page.Iso88595
    ∷ page.Iso88596 ∷ page.Iso88597 ∷ page.Iso88598 ∷ page.Utf8 ∷ []

-- the page of an id: 0 is Utf8 too
abbrev pub page_with_id : ℕ → Option CodePage
page_with_id id = if id == 0 then Some page.Utf8 else find (λ p. page_id p == id) all_pages

-- no page has a negative id
abbrev pub page_with_signed_id : ℤ → Option CodePage
page_with_signed_id (pos id) = page_with_id id
page_with_signed_id (negsuc n) = None

-- an id tells its page
abbrev pub PageIdsTellPages : Type 0
PageIdsTellPages = (p : CodePage) → page_with_id (page_id p) ≡ Some p

-- what people call them
abbrev pub page_name : CodePage → List ℕ
page_name page.Windows932 = codes "Windows Japanese Shift JIS"
page_name page.Windows936 = codes "Windows Chinese (simplified) GBK"
page_name page.Windows949 = codes "Windows Korean Unified Hangul Code"
page_name page.Windows950 = codes "Windows Chinese (traditional) Big5"
page_name page.Windows951 = codes "Windows Chinese (traditional) Big5-HKSCS"
page_name page.Windows1250 = codes "Windows Latin 2"
page_name page.Windows1251 = codes "Windows Cyrillic"
page_name page.Windows1252 = codes "Windows Latin 1"
page_name page.Windows1253 = codes "Windows Greek"
page_name page.Windows1254 = codes "Windows Turkish"
page_name page.Windows1255 = codes "Windows Hebrew"
page_name page.Windows1256 = codes "Windows Arabic"
page_name page.Windows1257 = codes "Windows Baltic"
page_name page.Windows1258 = codes "Windows Vietnamese"
page_name page.MacintoshRoman = codes "Mac OS Roman"
page_name page.MacintoshCyrillic = codes "Macintosh Cyrillic"
page_name page.UsAscii = codes "US-ASCII"
page_name page.Iso88591 = codes "ISO Latin 1"
page_name page.Iso88592 = codes "ISO Latin 2"
page_name page.Iso88593 = codes "ISO Latin 3"
page_name page.Iso88594 = codes "ISO Latin 4"
page_name page.Iso88595 = codes "ISO Latin/Cyrillic"
page_name page.Iso88596 = codes "ISO Latin/Arabic"
page_name page.Iso88597 = codes "ISO Latin/Greek"
page_name page.Iso88598 = codes "ISO Latin/Hebrew"
page_name page.Utf8 = codes "UTF-8"
