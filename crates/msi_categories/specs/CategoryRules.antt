-- Which texts a category accepts (MSI SDK, "Column Data Types").
use Rattle.std.specs.Prelude.{ℕ, Bool, true, false, not, List, [], ◌∷◌, length, drop, take, is_some, nat_le, ◌==◌, ◌&&◌}
use Rattle.std.specs.Prelude.{◌||◌, if◌then◌else◌, slice_index, neg_ℤ, pos}
use Rattle.std.specs.List.{list_all, list_any, slice_split, before_last, after_last}
use Rattle.std.specs.Char.{is_ascii_digit}
use Rattle.std.specs.Int.{is_in_range}
use Rattle.uuid.specs.Text.{parsed_hyphenated}
use Rattle.msi_categories.specs.declared.category.Category.{Category}
use Rattle.msi_categories.specs.declared.category.Category.TheVariants as category
use Rattle.msi_categories.specs.Numerals.{u16_in, is_number_within}

abbrev pub is_lower : ℕ → Bool
is_lower c = is_in_range 97 122 c

abbrev pub is_upper : ℕ → Bool
is_upper c = is_in_range 65 90 c

-- a letter or `_`, then letters, digits, `_` and `.`
abbrev pub starts_name : ℕ → Bool
starts_name c = is_lower c || is_upper c || (c == 95)

abbrev pub continues_name : ℕ → Bool
continues_name c = starts_name c || is_ascii_digit c || (c == 46)

abbrev pub is_identifier : List ℕ → Bool
is_identifier [] = false
is_identifier (c ∷ cs) = starts_name c && list_all continues_name cs

-- an Identifier, after one `%` if there
abbrev pub is_property : List ℕ → Bool
is_property text = is_identifier (if slice_index text 0 == 37 then drop 1 text else text)

-- 38 bytes: `{`, a UUID with its hyphens, and `}`
abbrev pub is_braced_uuid : List ℕ → Bool
is_braced_uuid text = (length text == 38) && (slice_index text 0 == 123) && (slice_index text 37 == 125)
    && is_some (parsed_hyphenated (take 36 (drop 1 text)))

-- such a UUID, without small letters
abbrev pub is_guid : List ℕ → Bool
is_guid text = is_braced_uuid text && not (list_any is_lower text)

abbrev pub is_version : List ℕ → Bool
is_version text = let parts = slice_split (λ c. c == 46) text in
    nat_le (length parts) 4 && list_all (λ part. is_some (u16_in part)) parts

abbrev pub is_language_list : List ℕ → Bool
is_language_list text = list_all (λ part. is_some (u16_in part)) (slice_split (λ c. c == 44) text)

-- the name of a stream, or a short file name: cut at the last `.`, without one all is front
abbrev pub is_short_name : List ℕ → Bool
is_short_name text = if list_any (λ c. c == 46) text
    then is_in_range 1 8 (length (before_last (λ c. c == 46) text))
    && nat_le (length (after_last (λ c. c == 46) text)) 3
    else is_in_range 1 8 (length text)

abbrev pub is_cabinet : List ℕ → Bool
is_cabinet text = if slice_index text 0 == 35 then is_identifier (drop 1 text) else is_short_name text

-- categories without a rule accept every text
abbrev pub is_accepted : Category → List ℕ → Bool
is_accepted category.UpperCase text = not (list_any is_lower text)
is_accepted category.LowerCase text = not (list_any is_upper text)
is_accepted category.Integer text = is_number_within (neg_ℤ (pos 32768)) (pos 32767) text
is_accepted category.DoubleInteger text = is_number_within (neg_ℤ (pos 2147483648)) (pos 2147483647) text
is_accepted category.Number text = is_number_within (neg_ℤ (pos 2147483648)) (pos 2147483647) text
is_accepted category.Identifier text = is_identifier text
is_accepted category.Property text = is_property text
is_accepted category.Guid text = is_guid text
is_accepted category.Version text = is_version text
is_accepted category.Language text = is_language_list text
is_accepted category.Cabinet text = is_cabinet text
is_accepted _ text = true
