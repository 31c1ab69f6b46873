-- The laws of the pages.
use Rattle.std.proofs.Common.{◌≡◌, ℕ, true, List, [], ◌∷◌, map, Option, Some, None, option_map, encode_utf8_all, chars, refl, sym, ap, ◌∙◌, nat_lt, eqb-true}
use Rattle.std.specs.Prelude.{option_and_then}
use Rattle.std.proofs.lemmas.Option.{same_Some}
use Rattle.std.proofs.lemmas.Str.{encodes-chars}
use Rattle.msi_base.specs.Lists.{all_present}
use Rattle.msi_base.proofs.OptionLemmas.{guard_held, map_some}
use Rattle.msi_code_pages.specs.declared.page.Page.{Page}
use Rattle.msi_code_pages.specs.declared.page.Page.TheVariants as page
use Rattle.msi_code_pages.specs.Page.{PageIdsTellPages}
use Rattle.msi_code_pages.specs.Sequences.{is_lead, character_of}
use Rattle.msi_code_pages.specs.Reading.{sequences, text_of}
use Rattle.msi_code_pages.specs.Spelling.{sequence_of, is_written, written_character, holds, spells, least, number_of, joined, bytes_of_all, BytesStandForCharacters, SequencesComeBack, TextsComeBack}
use Rattle.msi_code_pages.proofs.IndexLemmas.{least_passes}
use Rattle.msi_code_pages.proofs.PresentLemmas.{present_parts}
use Rattle.msi_code_pages.proofs.SequencesLemmas.{sequence_first}

holds_is : (c : ℕ) (o : Option ℕ) → holds c o ≡ true → o ≡ Some c
holds_is c None h = absurd cc
holds_is c (Some d) h = ap Some (eqb-true d c h)

number_stands : (page : Page) (c n : ℕ) → number_of page c ≡ Some n → character_of page (sequence_of n) ≡ Some c
unfolding number_of spells written_character
number_stands page c n h =
    let found = (guard_held (nat_lt c 0x10000) (least (spells page c) 0x10000) n h).1 in
    let spelled = holds_is c (written_character page n) (least_passes (spells page c) 0x10000 n found) in
    (guard_held (is_written page n) (character_of page (sequence_of n)) c spelled).1

pub bytes_stand_for_characters : BytesStandForCharacters
bytes_stand_for_characters page c s h =
    let number = map_some (number_of page c) sequence_of s h in
    ap (character_of page) (sym number.2) ∙ number_stands page c number.0 number.1

pub sequences_come_back : SequencesComeBack
sequences_come_back page s again c is h = bytes_stand_for_characters page c again h ∙ sym is

-- the sequences of characters stand for them
all_stand : (page : Page) (cs ns : List ℕ) → all_present (map (number_of page) cs) ≡ Some ns
    → all_present (map (character_of page) (map sequence_of ns)) ≡ Some cs
all_stand page [] ns h = ap (λ ms. all_present (map (character_of page) (map sequence_of ms))) (sym (same_Some [] ns h))
all_stand page (c ∷ cs) ns h =
    let parts = present_parts (number_of page c) (map (number_of page) cs) ns h in
    ap (λ ms. all_present (map (character_of page) (map sequence_of ms))) (sym parts.4)
    ∙ ap (option_and_then (λ x. option_map (λ xs. x ∷ xs) (all_present (map (character_of page) (map sequence_of parts.1))))) (number_stands page c parts.0 parts.2)
    ∙ ap (option_map (λ xs. c ∷ xs)) (all_stand page cs parts.1 parts.3)

-- joined, they are the same sequences again
all_apart : (page : Page) (ss : List (List ℕ)) (cs : List ℕ) → all_present (map (character_of page) ss) ≡ Some cs
    → sequences (is_lead page) (joined ss) ≡ ss
all_apart page [] cs h = refl
all_apart page (s ∷ ss) cs h =
    let parts = present_parts (character_of page s) (map (character_of page) ss) cs h in
    sequence_first page s (joined ss) parts.0 parts.2 ∙ ap (λ ts. s ∷ ts) (all_apart page ss parts.1 parts.3)

pub texts_come_back : TextsComeBack
unfolding bytes_of_all text_of
texts_come_back page text bytes utf8 h =
    let numbers = map_some (all_present (map (number_of page) (chars text))) (λ ns. joined (map sequence_of ns)) bytes h in
    let stand = all_stand page (chars text) numbers.0 numbers.1 in
    ap (λ bs. option_map encode_utf8_all (all_present (map (character_of page) (sequences (is_lead page) bs)))) (sym numbers.2)
    ∙ ap (λ ss. option_map encode_utf8_all (all_present (map (character_of page) ss))) (all_apart page (map sequence_of numbers.0) (chars text) stand)
    ∙ ap (option_map encode_utf8_all) stand
    ∙ ap Some (encodes-chars text utf8)

pub page_named : PageIdsTellPages
page_named page.Windows874 = refl
page_named page = refl
