-- What a page spells of a text: how long it is, and that it reads as a text which is spelled by the same bytes.
use Rattle.std.proofs.Common.{◌≡◌, ℕ, ◌*◌, ◌≤◌, true, cond, List, [], ◌∷◌, length, map, Option, Some, None, is_some, chars, encode_utf8_all, refl, sym, ap, ◌∙◌, arith}
use Rattle.std.specs.Prelude.{unwrap_or, IsUtf8}
use Rattle.std.proofs.Math.Utf8.{encode}
use Rattle.std.proofs.lemmas.List.{length-append, length-map}
use Rattle.std.proofs.lemmas.Str.{chars-encodes, encodes-chars, length-encode, len_utf8_bounds}
use Rattle.bstr.specs.Utf8.{lossy_chars}
use Rattle.msi_base.specs.declared.codepage.CodePage.{CodePage}
use Rattle.msi_base.specs.declared.codepage.CodePage.TheVariants as page
use Rattle.msi_base.specs.PageTables.{upper_characters, character_of, character_read, byte_of, byte_written}
use Rattle.msi_base.specs.Pages.{is_ascii, single_byte_text, single_byte_spelling, bytes_in, Reads, Writes}
use Rattle.msi_base.proofs.PageTablesLemmas.{is_table, page_has_table, character_again}
use Rattle.msi_base.proofs.PagesLemmas.{all_scalars, utf8_texts_come_back}
use Rattle.msi_base.proofs.OptionLemmas.{guard_held, none_there, some_is, some_there}
use Rattle.msi_base.proofs.BoolLemmas.{by_test}

-- a character has at most four bytes in UTF-8, and at least one in each page
encodes_within : (cs : List ℕ) → length (encode_utf8_all cs) ≤ 4 * length cs
encodes_within [] = omega arith
encodes_within (c ∷ cs) = omega (arith, length-append (encode c) (encode_utf8_all cs), length-encode c, len_utf8_bounds c, encodes_within cs)

single_size : (upper : Option (List ℕ)) (text bytes : List ℕ) → IsUtf8 text → single_byte_spelling upper text ≡ Some bytes → length text ≤ 4 * length bytes
single_size (Some upper) text bytes utf8 is =
    let same : length (map (byte_written upper) (chars text)) ≡ length bytes = ap length (some_is _ bytes is) in
    omega (arith, same, length-map (chars text) (byte_written upper), encodes_within (chars text), ap length (encodes-chars text utf8))
single_size None text bytes utf8 is =
    let held = guard_held (is_ascii text) (Some text) bytes is in
    omega (arith, ap length (some_is text bytes held.1))

pub spelled_size : (page : CodePage) (text bytes : List ℕ) → IsUtf8 text → bytes_in page text ≡ Some bytes → length text ≤ 4 * length bytes
spelled_size page.Utf8 text bytes utf8 is = omega (arith, ap length (some_is text bytes is))
spelled_size page text bytes utf8 is = single_size (upper_characters page) text bytes utf8 is

-- a byte that is written, also the mark for a character without one, is written again for what it reads as
byte_once_more : (upper : List ℕ) (c : ℕ) → byte_written upper (character_read upper (byte_written upper c)) ≡ byte_written upper c
byte_once_more upper c = by_test (is_some (byte_of upper c))
    (λ there.
    let read : character_of upper (byte_written upper c) ≡ Some c = character_again upper (byte_written upper c) c (some_there (byte_of upper c) 63 there) in
    ap (λ o. byte_written upper (unwrap_or o 0xFFFD)) read)
    (λ none.
    let mark : byte_written upper c ≡ 63 = ap (λ o. unwrap_or o 63) (none_there (byte_of upper c) none) in
    ap (λ b. byte_written upper (character_read upper b)) mark ∙ sym mark)

bytes_once_more : (upper cs : List ℕ) → map (byte_written upper) (map (character_read upper) (map (byte_written upper) cs)) ≡ map (byte_written upper) cs
bytes_once_more upper [] = refl
bytes_once_more upper (c ∷ cs) =
    ap (λ b. b ∷ map (byte_written upper) (map (character_read upper) (map (byte_written upper) cs))) (byte_once_more upper c)
    ∙ ap (λ bytes. byte_written upper c ∷ bytes) (bytes_once_more upper cs)

single_again : (o : Option (List ℕ)) → ((upper : List ℕ) → o ≡ Some upper → is_table upper ≡ true) → (text bytes : List ℕ) → IsUtf8 text → single_byte_spelling o text ≡ Some bytes
    → (again : List ℕ) × IsUtf8 again × (single_byte_text o bytes ≡ Some again) × (single_byte_spelling o again ≡ Some bytes)
single_again (Some upper) tables text bytes utf8 is =
    let cs = map (character_read upper) bytes in
    let are = all_scalars upper bytes (tables upper refl) in
    let same : map (byte_written upper) (chars text) ≡ bytes = some_is _ bytes is in
    let more : map (byte_written upper) cs ≡ bytes =
    ap (λ bs. map (byte_written upper) (map (character_read upper) bs)) (sym same) ∙ bytes_once_more upper (chars text) ∙ same in
    (encode_utf8_all cs, (cs, (are, refl)), refl, ap (λ ds. Some (map (byte_written upper) ds)) (chars-encodes cs are) ∙ ap Some more)
single_again None tables text bytes utf8 is =
    let held = guard_held (is_ascii text) (Some text) bytes is in
    let same : text ≡ bytes = some_is text bytes held.1 in
    (text, utf8, ap (λ bs. single_byte_text None bs) (sym same) ∙ ap (λ t. cond t (Some text) None) held.0, is)

pub written_again : (page : CodePage) (text bytes : List ℕ) → IsUtf8 text → bytes_in page text ≡ Some bytes
    → (again : List ℕ) × IsUtf8 again × Reads page bytes again × Writes page again bytes
written_again page.Utf8 text bytes utf8 is =
    (text, utf8, ap (λ bs. Some (encode_utf8_all (lossy_chars bs))) (sym (some_is text bytes is)) ∙ utf8_texts_come_back text utf8, is)
written_again page text bytes utf8 is = single_again (upper_characters page) (λ upper has. page_has_table page upper has) text bytes utf8 is
