-- The rows of languages: each id that has a tag, with the tag. The tables in the code tell them, and they are told
-- once.
use Rattle.std.specs.Prelude.{ℕ, ◌==◌, nat_lt, if◌then◌else◌, List, ◌++◌, map}
use Rattle.std.specs.Borrow.{Bor}
use Rattle.msi_categories.specs.declared.language.rows.TheConstants.{LANGUAGES_ALONE, FIRST_REGIONS}
use Rattle.msi_categories.specs.declared.language.rows.TheConstants.{FURTHER_REGIONS, LAST_REGIONS}

-- those of sub-language 0, of 1, of 2 to 7, and of the others
unfoldable pub languages_alone : List (ℕ × List ℕ)
languages_alone = map (λ row. (row.0, row.1.now)) LANGUAGES_ALONE

unfoldable pub first_regions : List (ℕ × List ℕ)
first_regions = map (λ row. (row.0, row.1.now)) FIRST_REGIONS

unfoldable pub further_regions : List (ℕ × List ℕ)
further_regions = map (λ row. (row.0, row.1.now)) FURTHER_REGIONS

unfoldable pub last_regions : List (ℕ × List ℕ)
last_regions = map (λ row. (row.0, row.1.now)) LAST_REGIONS

-- all, in the order of their ids
unfoldable pub language_rows : List (ℕ × List ℕ)
language_rows = languages_alone ++ (first_regions ++ (further_regions ++ last_regions))

-- the table of a sub-language
abbrev pub rows_of_sub_language : ℕ → List (ℕ × List ℕ)
rows_of_sub_language sub =
    if sub == 0 then languages_alone else
    if sub == 1 then first_regions else
    if nat_lt sub 8 then further_regions else last_regions

-- the rows that a slice holds
abbrev pub rows_told : List (ℕ × Bor (List ℕ)) → List (ℕ × List ℕ)
rows_told = map (λ row. (row.0, row.1.now))
