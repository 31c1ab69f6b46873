-- Worked examples of stream names, by computation.
use Rattle.std.specs.Prelude.{◌≡◌, true, false, [], ◌∷◌, refl, codes, replicate}
use Rattle.msi_container_format.specs.StreamNames.{encoded_name, decoded_name, is_valid_name}

columns_name : encoded_name true (codes "_Columns") ≡ 0x4840 ∷ 0x3B3F ∷ 0x43F2 ∷ 0x4438 ∷ 0x45B1 ∷ []
columns_name = refl

columns_back : decoded_name (0x4840 ∷ 0x3B3F ∷ 0x43F2 ∷ 0x4438 ∷ 0x45B1 ∷ []) ≡ (codes "_Columns", true)
columns_back = refl

app_name : encoded_name false (codes "App.exe") ≡ 0x44CA ∷ 0x47B3 ∷ 0x46E8 ∷ 0x4828 ∷ []
app_name = refl

app_back : decoded_name (0x44CA ∷ 0x47B3 ∷ 0x46E8 ∷ 0x4828 ∷ []) ≡ (codes "App.exe", false)
app_back = refl

-- each run begins anew after a character without a value
two_runs : encoded_name false (codes "abc de") ≡ 0x4164 ∷ 0x4826 ∷ 32 ∷ 0x4227 ∷ []
two_runs = refl

-- only the first mark is one
mark_once : decoded_name (0x4840 ∷ 0x4840 ∷ 97 ∷ []) ≡ (0x4840 ∷ 97 ∷ [], true)
mark_once = refl

long_accepted : is_valid_name false (replicate 62 97) ≡ true
long_accepted = refl

too_long : is_valid_name false (replicate 63 97) ≡ false
too_long = refl

mark_counted : is_valid_name true (replicate 60 97) ≡ true
mark_counted = refl

too_long_with_mark : is_valid_name true (replicate 61 97) ≡ false
too_long_with_mark = refl

-- a character past U+FFFF is two units
pairs_accepted : is_valid_name false (97 ∷ replicate 15 0x1_0000) ≡ true
pairs_accepted = refl

too_many_pairs : is_valid_name false (replicate 16 0x1_0000) ≡ false
too_many_pairs = refl

empty_refused : is_valid_name false [] ≡ false
empty_refused = refl

empty_table_refused : is_valid_name true [] ≡ false
empty_table_refused = refl

packed_refused : is_valid_name false (0x3800 ∷ 120 ∷ []) ≡ false
packed_refused = refl

marked_refused : is_valid_name false (0x4840 ∷ 120 ∷ []) ≡ false
marked_refused = refl

marked_table_refused : is_valid_name true (0x4840 ∷ 120 ∷ []) ≡ false
marked_table_refused = refl

mark_inside_accepted : is_valid_name false (120 ∷ 0x4840 ∷ []) ≡ true
mark_inside_accepted = refl

slash_refused : is_valid_name false (codes "a/b") ≡ false
slash_refused = refl
