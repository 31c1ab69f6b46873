-- Language ids (MS-LCID 2.2): ten bits of a primary language, and six of a sub-language. An id that has a row has a tag
-- (BCP 47).
use Rattle.std.specs.Prelude.{◌≡◌, ℕ, ◌*◌, ◌/◌, ◌%◌, ◌^◌, ◌<◌, ◌==◌, List, bit_or, bytes_eq, find, map, codes, Contains}
use Rattle.std.specs.Option.{option_map_or}
use Rattle.std.specs.List.Sorted.{IsStrictlyIncreasing}
use Rattle.msi_categories.specs.LanguageRows.{language_rows}

abbrev pub language_id : ℕ → ℕ → ℕ
language_id primary sub = bit_or primary (sub * 1024 % 2 ^ 16)

abbrev pub primary_language : ℕ → ℕ
primary_language id = id % 1024

abbrev pub sub_language : ℕ → ℕ
sub_language id = id / 1024

abbrev pub id_of_lcid : ℕ → ℕ
id_of_lcid lcid = lcid % 2 ^ 16

-- the tag in the row of the id, else `und`, which stands for an undetermined language
abbrev pub tag_of : ℕ → List ℕ
tag_of id = option_map_or (λ row. row.1) (find (λ row. row.0 == id) language_rows) (codes "und")

-- the id in the first row with the tag, else 0
abbrev pub id_of_tag : List ℕ → ℕ
id_of_tag tag = option_map_or (λ row. row.0) (find (λ row. bytes_eq row.1 tag) language_rows) 0

-- the parts of an id make it again
abbrev pub LanguagePartsComeBack : Type 0
LanguagePartsComeBack = (id : ℕ) → id < 2 ^ 16 → language_id (primary_language id) (sub_language id) ≡ id

-- each row's id is below the next one's
abbrev pub LanguageRowsAscend : Type 0
LanguageRowsAscend = IsStrictlyIncreasing (map (λ row. row.0) language_rows)

-- the id of a row tells the row's tag
abbrev pub LanguageIdsTellTags : Type 0
LanguageIdsTellTags = (row : ℕ × List ℕ) → Contains language_rows row → tag_of row.0 ≡ row.1

-- the tag of a row tells the row's id
abbrev pub LanguageTagsTellIds : Type 0
LanguageTagsTellIds = (row : ℕ × List ℕ) → Contains language_rows row → id_of_tag row.1 ≡ row.0
