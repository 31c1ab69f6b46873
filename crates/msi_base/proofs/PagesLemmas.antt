-- What callers need of code pages.
use Rattle.std.proofs.Common.{◌≡◌, ℕ, zero, suc, ◌+◌, ◌-◌, ◌^◌, ◌<◌, true, false, cond, ◌&&◌, List, [], ◌∷◌, map, Option, Some, None, is_some, option_map, position, slice_get, chars, encode_utf8_all, eqb, refl, sym, ap, ◌∙◌, arith, rules, nat_lt, lt-ltb}
use Rattle.std.specs.Prelude.{unwrap_or, option_and_then, ◌↔◌, IsUtf8}
use Rattle.std.specs.List.{list_all}
use Rattle.std.specs.Str.{IsAscii}
use Rattle.std.proofs.Math.Utf8.{scalar, scalars}
use Rattle.std.proofs.lemmas.Bool.{and_parts, and_from, ltb-true}
use Rattle.std.proofs.lemmas.Str.{IsUtf8-from_ascii, encodes-IsAscii, chars-IsAscii, encodes-chars, chars-encodes}
use Rattle.std.proofs.lemmas.Option.{same_Some}
use Rattle.bstr.specs.Utf8.{pieces_from}
use Rattle.bstr.proofs.lemmas.EncodeLemmas.{lossy_chars-utf8}
use Rattle.msi_base.specs.declared.codepage.CodePage.{CodePage}
use Rattle.msi_base.specs.declared.codepage.CodePage.TheVariants as page
use Rattle.msi_base.specs.PageTables.{upper_characters, character_read, byte_written, character_of, byte_of}
use Rattle.msi_base.specs.Pages.{is_ascii, single_byte_text, single_byte_spelling, text_in, bytes_in, page_id, page_with_id, PageTextsComeBack, PageBytesComeBack, Utf8TextsComeBack, AsciiStandsForItself, IsWritable}
use Rattle.msi_base.proofs.PageTablesLemmas.{is_table, page_has_table, byte_again, character_again, character_scalar}
use Rattle.msi_base.proofs.OptionLemmas.{none_there, some_there}
use Rattle.msi_base.proofs.BoolLemmas.{by_test, yes_is_no}

pub IsAscii-from_test : (bytes : List ℕ) → is_ascii bytes ≡ true → IsAscii bytes
IsAscii-from_test [] h i = grind (arith, rules)
IsAscii-from_test (b ∷ bytes) h zero = let both = and_parts (nat_lt b 128) (is_ascii bytes) h in ltb-true b 128 both.0
IsAscii-from_test (b ∷ bytes) h (suc i) = IsAscii-from_test bytes (and_parts (nat_lt b 128) (is_ascii bytes) h).1 i

-- ASCII is the same in each table
ascii_read : (upper bytes : List ℕ) → is_ascii bytes ≡ true → map (character_read upper) bytes ≡ bytes
ascii_read upper [] h = refl
ascii_read upper (b ∷ bytes) h =
    let both = and_parts (nat_lt b 128) (is_ascii bytes) h in
    ap (λ t. unwrap_or (cond t (Some b) (slice_get upper (b - 0x80))) 0xFFFD ∷ map (character_read upper) bytes) both.0 ∙ ap (λ bs. b ∷ bs) (ascii_read upper bytes both.1)

ascii_written : (upper text : List ℕ) → is_ascii text ≡ true → map (byte_written upper) text ≡ text
ascii_written upper [] h = refl
ascii_written upper (c ∷ text) h =
    let both = and_parts (nat_lt c 128) (is_ascii text) h in
    ap (λ t. unwrap_or (cond t (Some c) (option_map (λ i. 0x80 + i) (position (λ d. eqb d c) upper))) 63 ∷ map (byte_written upper) text) both.0 ∙ ap (λ cs. c ∷ cs) (ascii_written upper text both.1)

pub ascii_text_is : (upper : Option (List ℕ)) (bytes : List ℕ) → is_ascii bytes ≡ true → single_byte_text upper bytes ≡ Some bytes
ascii_text_is (Some upper) bytes h = ap (λ cs. Some (encode_utf8_all cs)) (ascii_read upper bytes h) ∙ ap Some (encodes-IsAscii bytes (IsAscii-from_test bytes h))
ascii_text_is None bytes h = ap (λ t. cond t (Some bytes) None) h

pub ascii_spelling_is : (upper : Option (List ℕ)) (text : List ℕ) → is_ascii text ≡ true → single_byte_spelling upper text ≡ Some text
ascii_spelling_is (Some upper) text h = ap (λ cs. Some (map (byte_written upper) cs)) (chars-IsAscii text (IsAscii-from_test text h)) ∙ ap Some (ascii_written upper text h)
ascii_spelling_is None text h = ap (λ t. cond t (Some text) None) h

pub utf8_texts_come_back : Utf8TextsComeBack
utf8_texts_come_back text utf8 = ap Some (lossy_chars-utf8 text utf8)

pub ascii_stands_for_itself : AsciiStandsForItself
ascii_stands_for_itself page.Utf8 text h = (refl, ap Some (lossy_chars-utf8 text (IsUtf8-from_ascii text (IsAscii-from_test text h))))
ascii_stands_for_itself page text h = (ascii_spelling_is (upper_characters page) text h, ascii_text_is (upper_characters page) text h)

test-from_IsAscii : (bytes : List ℕ) → IsAscii bytes → is_ascii bytes ≡ true
test-from_IsAscii [] h = refl
test-from_IsAscii (b ∷ bytes) h = and_from (nat_lt b 128) (is_ascii bytes) (lt-ltb b 128 (h 0)) (test-from_IsAscii bytes (λ i. h (suc i)))

pub ascii_reads_as_utf8 : (p : CodePage) (bytes : List ℕ) → IsAscii bytes → text_in p bytes ≡ text_in page.Utf8 bytes
ascii_reads_as_utf8 p bytes h =
    let ascii = test-from_IsAscii bytes h in
    (ascii_stands_for_itself p bytes ascii).1 ∙ sym (ascii_stands_for_itself page.Utf8 bytes ascii).1

-- in a page with a table
table_text : (page : CodePage) (upper bytes : List ℕ) → upper_characters page ≡ Some upper → text_in page bytes ≡ single_byte_text (Some upper) bytes
table_text page.Utf8 upper bytes h = cc
table_text page upper bytes h = ap (λ o. single_byte_text o bytes) h

table_spelling : (page : CodePage) (upper text : List ℕ) → upper_characters page ≡ Some upper → bytes_in page text ≡ single_byte_spelling (Some upper) text
table_spelling page.Utf8 upper text h = cc
table_spelling page upper text h = ap (λ o. single_byte_spelling o text) h

characters_again : (upper cs : List ℕ) → list_all (λ c. is_some (byte_of upper c)) cs ≡ true → map (character_read upper) (map (byte_written upper) cs) ≡ cs
characters_again upper [] h = refl
characters_again upper (c ∷ cs) h =
    let both = and_parts (is_some (byte_of upper c)) (list_all (λ d. is_some (byte_of upper d)) cs) h in
    let there = character_again upper (byte_written upper c) c (some_there (byte_of upper c) 63 both.0) in
    ap (λ o. unwrap_or o 0xFFFD ∷ map (character_read upper) (map (byte_written upper) cs)) there ∙ ap (λ ds. c ∷ ds) (characters_again upper cs both.1)

pub texts_come_back : PageTextsComeBack
texts_come_back page upper text has utf8 places =
    let bytes = map (byte_written upper) (chars text) in
    ap (option_and_then (text_in page)) (table_spelling page upper text has)
    ∙ table_text page upper bytes has
    ∙ ap (λ cs. Some (encode_utf8_all cs)) (characters_again upper (chars text) places)
    ∙ ap Some (encodes-chars text utf8)

bytes_again : (upper bytes : List ℕ) → is_table upper ≡ true → list_all (λ b. is_some (character_of upper b)) bytes ≡ true → map (byte_written upper) (map (character_read upper) bytes) ≡ bytes
bytes_again upper [] table h = refl
bytes_again upper (b ∷ bytes) table h =
    let both = and_parts (is_some (character_of upper b)) (list_all (λ d. is_some (character_of upper d)) bytes) h in
    let there = byte_again upper table b (character_read upper b) (some_there (character_of upper b) 0xFFFD both.0) in
    ap (λ o. unwrap_or o 63 ∷ map (byte_written upper) (map (character_read upper) bytes)) there ∙ ap (λ bs. b ∷ bs) (bytes_again upper bytes table both.1)

scalars_read : (upper bytes : List ℕ) → is_table upper ≡ true → list_all (λ b. is_some (character_of upper b)) bytes ≡ true → scalars (map (character_read upper) bytes) ≡ true
scalars_read upper [] table h = refl
scalars_read upper (b ∷ bytes) table h =
    let both = and_parts (is_some (character_of upper b)) (list_all (λ d. is_some (character_of upper d)) bytes) h in
    let first = character_scalar upper table b (character_read upper b) (some_there (character_of upper b) 0xFFFD both.0) in
    ap (λ t. t && scalars (map (character_read upper) bytes)) first ∙ scalars_read upper bytes table both.1

pub bytes_come_back : PageBytesComeBack
bytes_come_back page upper bytes text has known reads =
    let table = page_has_table page upper has in
    let cs = map (character_read upper) bytes in
    let spelled = same_Some (encode_utf8_all cs) text (sym (table_text page upper bytes has) ∙ reads) in
    let characters = ap chars (sym spelled) ∙ chars-encodes cs (scalars_read upper bytes table known) in
    table_spelling page upper text has
    ∙ ap (λ ds. Some (map (byte_written upper) ds)) characters
    ∙ ap Some (bytes_again upper bytes table known)

-- only a text whose characters all have a byte reads back: `?`, which stands for the others, has one
read_there : (upper : List ℕ) (c : ℕ) → character_read upper (byte_written upper c) ≡ c → is_some (byte_of upper c) ≡ true
read_there upper c again = by_test (is_some (byte_of upper c)) (λ there. there)
    (λ none.
    let mark : c ≡ 63 = sym again ∙ ap (λ o. character_read upper (unwrap_or o 63)) (none_there (byte_of upper c) none) in
    yes_is_no (is_some (byte_of upper c)) (ap (λ d. is_some (byte_of upper d)) mark) none)

abbrev front : List ℕ → ℕ
front [] = 0
front (c ∷ cs) = c

abbrev behind : List ℕ → List ℕ
behind [] = []
behind (c ∷ cs) = cs

all_there : (upper cs : List ℕ) → map (character_read upper) (map (byte_written upper) cs) ≡ cs → list_all (λ c. is_some (byte_of upper c)) cs ≡ true
all_there upper [] again = refl
all_there upper (c ∷ cs) again = and_from (is_some (byte_of upper c)) (list_all (λ d. is_some (byte_of upper d)) cs) (read_there upper c (ap front again)) (all_there upper cs (ap behind again))

scalar_read : (upper : List ℕ) → is_table upper ≡ true → (b : ℕ) → scalar (character_read upper b) ≡ true
scalar_read upper table b = by_test (is_some (character_of upper b))
    (λ there. character_scalar upper table b (character_read upper b) (some_there (character_of upper b) 0xFFFD there))
    (λ none. ap (λ o. scalar (unwrap_or o 0xFFFD)) (none_there (character_of upper b) none))

pub all_scalars : (upper bytes : List ℕ) → is_table upper ≡ true → scalars (map (character_read upper) bytes) ≡ true
all_scalars upper [] table = refl
all_scalars upper (b ∷ bytes) table = ap (λ t. t && scalars (map (character_read upper) bytes)) (scalar_read upper table b) ∙ all_scalars upper bytes table

-- a text in a page with a table reads back where, and only where, each of its characters has a byte
only_there : (page : CodePage) (upper text : List ℕ) → upper_characters page ≡ Some upper → IsWritable page text
    → list_all (λ c. is_some (byte_of upper c)) (chars text) ≡ true
only_there page upper text has writable =
    let bytes = map (byte_written upper) (chars text) in
    let again = map (character_read upper) bytes in
    let whole = ap (option_and_then (text_in page)) (table_spelling page upper text has) ∙ table_text page upper bytes has in
    let same = same_Some (encode_utf8_all again) text (sym whole ∙ writable) in
    all_there upper (chars text) (sym (chars-encodes again (all_scalars upper bytes (page_has_table page upper has))) ∙ ap chars same)

pub texts_in_table : (page : CodePage) (upper text : List ℕ) → upper_characters page ≡ Some upper → IsUtf8 text
    → (list_all (λ c. is_some (byte_of upper c)) (chars text) ≡ true) ↔ IsWritable page text
texts_in_table page upper text has utf8 = (λ places. texts_come_back page upper text has utf8 places, λ writable. only_there page upper text has writable)

-- each page has an id, which names it
pub page_named : (page : CodePage) → page_with_id (page_id page) ≡ Some page
page_named page.Utf8 = refl
page_named page = refl

pub page_small : (page : CodePage) → page_id page < 2 ^ 31
page_small page.Utf8 = omega arith
page_small page = omega arith

-- no bytes read as no text
pub empty_reads : (page : CodePage) → text_in page [] ≡ Some []
unfolding pieces_from
empty_reads page.Utf8 = refl
empty_reads page = refl

-- ---- what the calls for one page answer

pub other_text : (self : CodePage) (bytes : List ℕ) → (self ≡ page.Utf8 → ⊥) → single_byte_text (upper_characters self) bytes ≡ text_in self bytes
other_text page.Utf8 bytes other = absurd (other refl)
other_text self bytes other = refl

pub other_spelling : (self : CodePage) (text : List ℕ) → (self ≡ page.Utf8 → ⊥) → single_byte_spelling (upper_characters self) text ≡ bytes_in self text
other_spelling page.Utf8 text other = absurd (other refl)
other_spelling self text other = refl

-- without a table, bytes past ASCII mean nothing
pub no_text : (bytes : List ℕ) → is_ascii bytes ≡ false → single_byte_text None bytes ≡ None
no_text bytes h = ap (λ t. cond t (Some bytes) None) h

pub no_spelling : (text : List ℕ) → is_ascii text ≡ false → single_byte_spelling None text ≡ None
no_spelling text h = ap (λ t. cond t (Some text) None) h
