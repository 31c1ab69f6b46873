-- Which sets are refused when they are written, and what is written of a value.
use Rattle.std.specs.Prelude.{◌≡◌, ◌++◌, Option, ℕ, ◌+◌, ◌*◌, ◌^◌, Bool, List, [], map, length, unwrap_or, is_some, zip}
use Rattle.std.specs.Prelude.{nat_lt, ◌&&◌}
use Rattle.std.specs.List.{list_all, flat_map}
use Rattle.std.specs.Io.KnownBytes.{Appends}
use Rattle.msi_base.specs.declared.codepage.CodePage.{CodePage}
use Rattle.msi_pool.specs.PoolWriting.{is_refused_spelling}
use Rattle.msi_summary_properties.specs.declared.propset.PropertyValue.{PropertyValue}
use Rattle.msi_summary_properties.specs.Properties.{Properties, page_of}
use Rattle.msi_summary_properties.specs.PropertyStream.{value_bytes, piece_of, section_of, ids_of, places_from}

-- a set that isn't written: the page can't carry a text, or the section has 2^32 bytes or more
abbrev pub is_refused : Properties → Bool
is_refused set = is_refused_spelling (section_of (page_of set) set.values)

-- the page carries each text
abbrev pub is_carried : CodePage → List (ℕ × PropertyValue) → Bool
is_carried page entries = list_all (λ e. is_some (value_bytes page e.1)) entries

-- what is written of a value that the page carries
abbrev pub piece_in : CodePage → PropertyValue → List ℕ
piece_in page value = unwrap_or (piece_of page value) []

abbrev pub pieces_in : CodePage → List (ℕ × PropertyValue) → List (List ℕ)
pieces_in page entries = map (λ e. piece_in page e.1) entries

-- the bytes of these values, one behind the other, and how many the section around them has
abbrev pub joined_pieces : CodePage → List (ℕ × PropertyValue) → List ℕ
joined_pieces page entries = flat_map (λ e. piece_in page e.1) entries

abbrev pub section_size : CodePage → List (ℕ × PropertyValue) → ℕ
section_size page entries = 8 + 8 * length entries + length (joined_pieces page entries)

-- known bytes grow by a beginning of these
abbrev pub AppendsBeginning : Option (List ℕ) → Option (List ℕ) → List ℕ → Type 0
AppendsBeginning old new bytes =
    (begun : List ℕ) × (others : List ℕ) × (bytes ≡ begun ++ others) × Appends old new begun

-- the id and the place of each value, the first at `place`
abbrev pub pairs_from : CodePage → ℕ → List (ℕ × PropertyValue) → List (ℕ × ℕ)
pairs_from page place entries = zip (ids_of entries) (places_from place (pieces_in page entries))

-- the same in the plain spelling, where the values stand right behind these pairs
abbrev pub plain_pairs : CodePage → List (ℕ × PropertyValue) → List (ℕ × ℕ)
plain_pairs page entries = pairs_from page (8 + 8 * length entries) entries

-- each text is carried, and the section isn't too long
abbrev pub can_write : CodePage → List (ℕ × PropertyValue) → Bool
can_write page entries = is_carried page entries && nat_lt (section_size page entries) (2 ^ 32)
