-- What some names become: `safe_spelling` and `full_spelling` at names that are written out.
use Rattle.std.proofs.Common.{◌≡◌, [], ◌∷◌, refl}
use Rattle.std.specs.Prelude.{codes}
use Rattle.std.proofs.Math.Utf8.{encode}
use Rattle.std.specs.Str.{chars, trim_end, trim_start}
use Rattle.msipkg_safe_names.specs.SafeNames.{escape, full_spelling, hexadecimal, is_name_of_device, safe_spelling, safe_spelling_at}

plain_name : safe_spelling (codes "Icon.ibd-1") ≡ codes "Icon.ibd-1"
unfolding safe_spelling safe_spelling_at is_name_of_device chars trim_start trim_end escape hexadecimal encode
plain_name = refl

folder_above : safe_spelling (codes "../up") ≡ codes "%2e.%2fup"
unfolding safe_spelling safe_spelling_at is_name_of_device chars trim_start trim_end escape hexadecimal encode
folder_above = refl

device : safe_spelling (codes "CON") ≡ codes "%43ON"
unfolding safe_spelling safe_spelling_at is_name_of_device chars trim_start trim_end escape hexadecimal encode
device = refl

-- the name up to its first dot counts, without the blank at its end, and case doesn't
device_with_ending : safe_spelling (codes "lpt1 .txt") ≡ codes "%6cpt1 .txt"
unfolding safe_spelling safe_spelling_at is_name_of_device chars trim_start trim_end escape hexadecimal encode
device_with_ending = refl

-- U+00E9, whose bytes are 195 and 169
letter_e_acute : safe_spelling (195 ∷ 169 ∷ []) ≡ codes "%{e9}"
unfolding safe_spelling safe_spelling_at is_name_of_device chars trim_start trim_end escape hexadecimal encode
letter_e_acute = refl

-- U+0005, which has one digit
control : safe_spelling (5 ∷ codes "SummaryInformation") ≡ codes "%05SummaryInformation"
unfolding safe_spelling safe_spelling_at is_name_of_device chars trim_start trim_end escape hexadecimal encode
control = refl

dot_at_the_end : safe_spelling (codes "a.b.") ≡ codes "a.b%2e"
unfolding safe_spelling safe_spelling_at is_name_of_device chars trim_start trim_end escape hexadecimal encode
dot_at_the_end = refl

percent : safe_spelling (codes "50%") ≡ codes "50%25"
unfolding safe_spelling safe_spelling_at is_name_of_device chars trim_start trim_end escape hexadecimal encode
percent = refl

empty_name : safe_spelling [] ≡ codes "%"
unfolding safe_spelling safe_spelling_at is_name_of_device chars trim_start trim_end escape hexadecimal encode
empty_name = refl

letters_too : full_spelling (codes "Ab.1") ≡ codes "%41%62%2e1"
unfolding full_spelling chars escape hexadecimal
letters_too = refl

empty_name_in_full : full_spelling [] ≡ codes "%"
unfolding full_spelling chars
empty_name_in_full = refl
