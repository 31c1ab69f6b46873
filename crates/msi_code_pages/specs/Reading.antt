-- What bytes read as in a page.
use Rattle.std.specs.Prelude.{◌≡◌, ℕ, ◌+◌, Bool, List, [], ◌∷◌, map, length, Option, Some, None, is_some}
use Rattle.std.specs.Prelude.{option_map, unwrap_or, encode_utf8_all, if◌then◌else◌}
use Rattle.msi_base.specs.Lists.{all_present}
use Rattle.msi_code_pages.specs.declared.page.Page.{Page}
use Rattle.msi_code_pages.specs.Sequences.{is_lead, character_of}

-- the sequences that bytes are: a lead byte stands with the byte after it, and each other byte alone
abbrev pub sequences : (ℕ → Bool) → List ℕ → List (List ℕ)
sequences lead [] = []
sequences lead (b ∷ []) = (b ∷ []) ∷ []
sequences lead (b ∷ t ∷ bs) =
    if lead b then (b ∷ t ∷ []) ∷ sequences lead bs else (b ∷ []) ∷ sequences lead (t ∷ bs)

-- the text of the sequences, where each stands for a character
unfoldable pub text_of : Page → List (List ℕ) → Option (List ℕ)
text_of page ss = option_map encode_utf8_all (all_present (map (character_of page) ss))

-- the text that bytes stand for, as its bytes in UTF-8
abbrev pub text_in : Page → List ℕ → Option (List ℕ)
text_in page bytes = text_of page (sequences (is_lead page) bytes)

-- how many bytes stand before the first sequence that stands for no character
unfoldable pub place_unmapped : Page → List (List ℕ) → Option ℕ
place_unmapped page [] = None
place_unmapped page (s ∷ ss) =
    if is_some (character_of page s) then option_map (λ n. length s + n) (place_unmapped page ss) else Some 0

abbrev pub first_unmapped : Page → List ℕ → Option ℕ
first_unmapped page bytes = place_unmapped page (sequences (is_lead page) bytes)

-- what is read where U+FFFD stands for each sequence that stands for no character
abbrev pub character_read : Page → List ℕ → ℕ
character_read page s = unwrap_or (character_of page s) 0xFFFD

-- the bytes read as the text
abbrev pub Reads : Page → List ℕ → List ℕ → Type 0
Reads page bytes text = text_in page bytes ≡ Some text
