-- The stream of a property set (MS-OLEPS 2.20, 2.21 and 2.15).
use Rattle.std.specs.Prelude.{◌≡◌, ℕ, ◌+◌, ◌-◌, ◌*◌, ◌%◌, ◌^◌, ◌<◌, ◌≤◌, ◌⊎◌, Bool, true, false, ◌==◌, if◌then◌else◌}
use Rattle.std.specs.Prelude.{List, [], ◌∷◌, ◌++◌, map, length, replicate, zip, Option, Some, option_map, IsSome}
use Rattle.std.specs.Prelude.{IsUtf8}
use Rattle.std.specs.List.{flat_map, list_any, AllByRecursion, AllZip}
use Rattle.std.specs.Ordering.{nat_cmp}
use Rattle.std.specs.Int.RustNames.{FitsSigned}
use Rattle.std.specs.Int.{w8, w16, w32, w64, to_le_bytes, cast_unsigned}
use Rattle.msi_base.specs.declared.codepage.CodePage.{CodePage}
use Rattle.msi_base.specs.Pages.{Reads, bytes_in, IsWritable}
use Rattle.msi_base.specs.Lists.{all_present, stable_sort, has_pair}
use Rattle.msi_summary_properties.specs.declared.propset.PropertyValue.{PropertyValue}
use Rattle.msi_summary_properties.specs.declared.propset.PropertyValue.TheVariants.{Empty, Null, I1, I2, I4, LpStr}
use Rattle.msi_summary_properties.specs.declared.propset.PropertyValue.TheVariants.{FileTime}
use Rattle.msi_summary_properties.specs.declared.propset.OperatingSystem.{OperatingSystem}
use Rattle.msi_summary_properties.specs.declared.propset.OperatingSystem.TheVariants as os
use Rattle.msi_summary_properties.specs.Properties.{Properties, page_in, page_of, value_with_id}

abbrev pub os_number : OperatingSystem → ℕ
os_number os.Win16 = 0
os_number os.Macintosh = 1
os_number os.Win32 = 2

-- `FE FF`, version, system version, system, CLSID, a number of at least 1, format id, where the section stands
abbrev pub header_bytes : Properties → ℕ → ℕ → ℕ → List ℕ
header_bytes set version reserved section =
    to_le_bytes w16 0xFFFE ++ to_le_bytes w16 version ++ to_le_bytes w16 set.os_version
    ++ to_le_bytes w16 (os_number set.os) ++ set.clsid ++ to_le_bytes w32 reserved
    ++ set.format_identifier ++ to_le_bytes w32 section

-- a text by its bytes in the page: their number with the null, the bytes, the null
abbrev pub string_bytes_of : List ℕ → List ℕ
string_bytes_of encoded = to_le_bytes w32 30 ++ to_le_bytes w32 (length encoded + 1) ++ encoded ++ 0 ∷ []

-- a text may be spelled by any bytes that read as it; the number 0 is read as 1
abbrev pub SpellsString : CodePage → List ℕ → List ℕ → Type 0
SpellsString page bytes text =
    ((encoded : List ℕ) × (length encoded + 1 < 2 ^ 32) × Reads page encoded text × (bytes ≡ string_bytes_of encoded))
    ⊎ Reads page [] text × (bytes ≡ to_le_bytes w32 30 ++ to_le_bytes w32 0 ++ 0 ∷ [])

-- the bytes of a value in a set of this version, without padding
abbrev pub SpellsValue : ℕ → CodePage → List ℕ → PropertyValue → Type 0
SpellsValue version page bytes Empty = bytes ≡ to_le_bytes w32 0
SpellsValue version page bytes Null = bytes ≡ to_le_bytes w32 1
SpellsValue version page bytes (I2 n) = bytes ≡ to_le_bytes w32 2 ++ to_le_bytes w16 (cast_unsigned w16 n)
SpellsValue version page bytes (I4 n) = bytes ≡ to_le_bytes w32 3 ++ to_le_bytes w32 (cast_unsigned w32 n)
SpellsValue version page bytes (I1 n) =
    (version ≡ 1) × (bytes ≡ to_le_bytes w32 16 ++ to_le_bytes w8 (cast_unsigned w8 n))
SpellsValue version page bytes (LpStr text) = SpellsString page bytes text
SpellsValue version page bytes (FileTime ticks) = bytes ≡ to_le_bytes w32 64 ++ to_le_bytes w64 ticks

-- values that their types hold
abbrev pub FitsValue : PropertyValue → Type 0
FitsValue (I1 n) = FitsSigned w8 n
FitsValue (I2 n) = FitsSigned w16 n
FitsValue (I4 n) = FitsSigned w32 n
FitsValue (FileTime ticks) = ticks < 2 ^ 64
FitsValue _ = Unit {0}

abbrev pub FitsHeader : Properties → Type 0
FitsHeader set = (set.os_version < 2 ^ 16) × (length set.clsid ≡ 16) × (length set.format_identifier ≡ 16)

-- something of which P holds stands at this place
abbrev pub StandsAt : ℕ → List ℕ → (List ℕ → Type 0) → Type 0
StandsAt place bytes P = (front : List ℕ) × (spelled : List ℕ) × (others : List ℕ)
    × (length front ≡ place) × (bytes ≡ front ++ spelled ++ others) × P spelled

-- the section: its size, the number of properties, and the id and the place of each, counted from the section
abbrev pub pair_bytes : ℕ × ℕ → List ℕ
pair_bytes p = to_le_bytes w32 p.0 ++ to_le_bytes w32 p.1

abbrev pub section_head : ℕ → List (ℕ × ℕ) → List ℕ
section_head size pairs = to_le_bytes w32 size ++ to_le_bytes w32 (length pairs) ++ flat_map pair_bytes pairs

abbrev pub by_id : {X : Type 0} → List (ℕ × X) → List (ℕ × X)
by_id entries = stable_sort (λ x y. nat_cmp x.0 y.0) entries

-- numbers that their fields can hold
abbrev pub FitsFields : ℕ → ℕ → ℕ → ℕ → List (ℕ × ℕ) → Type 0
FitsFields version reserved section size pairs =
    (version < 2) × (1 ≤ reserved) × (reserved < 2 ^ 32) × (section < 2 ^ 32) × (size < 2 ^ 32)
    × (length pairs < 2 ^ 32) × AllByRecursion (λ p. (p.0 < 2 ^ 32) × (p.1 < 2 ^ 32)) pairs

-- the value of an id is spelled at its place, counted from the section
abbrev pub ValueStandsAt : ℕ → CodePage → List ℕ → ℕ → ℕ × ℕ → PropertyValue → Type 0
ValueStandsAt version page bytes section pair value =
    FitsValue value × StandsAt (section + pair.1) bytes (λ front. SpellsValue version page front value)

-- the value of each id, listed once, is spelled at its place
pub record Spells (bytes : List ℕ) (set : Properties) : Type 0 where
  pub version : ℕ
  pub reserved : ℕ
  pub section : ℕ
  pub size : ℕ
  pub pairs : List (ℕ × ℕ)
  pub values : List PropertyValue
  pub held : FitsHeader set
  pub fits : FitsFields version reserved section size pairs
  pub header : StandsAt 0 bytes (λ front. front ≡ header_bytes set version reserved section)
  pub head : StandsAt section bytes (λ front. front ≡ section_head size pairs)
  pub once : has_pair (λ p q. p.0 == q.0) pairs ≡ false
  pub page : IsSome (page_in (value_with_id 1 set.values))
  pub spelled : AllZip (ValueStandsAt version (page_of set) bytes section) pairs values
  pub listed : set.values ≡ by_id (zip (map (λ p. p.0) pairs) values)

-- The plain spelling, which is what is written: values in the order of their ids, each padded to four bytes
abbrev pub value_bytes : CodePage → PropertyValue → Option (List ℕ)
value_bytes page Empty = Some (to_le_bytes w32 0)
value_bytes page Null = Some (to_le_bytes w32 1)
value_bytes page (I2 n) = Some (to_le_bytes w32 2 ++ to_le_bytes w16 (cast_unsigned w16 n))
value_bytes page (I4 n) = Some (to_le_bytes w32 3 ++ to_le_bytes w32 (cast_unsigned w32 n))
value_bytes page (I1 n) = Some (to_le_bytes w32 16 ++ to_le_bytes w8 (cast_unsigned w8 n))
value_bytes page (LpStr text) = option_map string_bytes_of (bytes_in page text)
value_bytes page (FileTime ticks) = Some (to_le_bytes w32 64 ++ to_le_bytes w64 ticks)

abbrev pub padded_to_four : List ℕ → List ℕ
padded_to_four bytes = bytes ++ replicate ((4 - length bytes % 4) % 4) 0

abbrev pub needs_version_1 : PropertyValue → Bool
needs_version_1 (I1 n) = true
needs_version_1 _ = false

abbrev pub version_of : List (ℕ × PropertyValue) → ℕ
version_of entries = if list_any (λ e. needs_version_1 e.1) entries then 1 else 0

abbrev pub least_version : Properties → ℕ
least_version set = version_of set.values

-- where each piece begins, the first at `place`
abbrev pub places_from : ℕ → List (List ℕ) → List ℕ
places_from place [] = []
places_from place (piece ∷ pieces) = place ∷ places_from (place + length piece) pieces

abbrev pub section_bytes : List ℕ → List (List ℕ) → List ℕ
section_bytes ids pieces = let first = 8 + 8 * length pieces in let all = flat_map (λ piece. piece) pieces in
    section_head (first + length all) (zip ids (places_from first pieces)) ++ all

-- a value with its padding; nothing where the page can't carry a text
abbrev pub piece_of : CodePage → PropertyValue → Option (List ℕ)
piece_of page value = option_map padded_to_four (value_bytes page value)

abbrev pub ids_of : List (ℕ × PropertyValue) → List ℕ
ids_of entries = map (λ e. e.0) entries

abbrev pub section_of : CodePage → List (ℕ × PropertyValue) → Option (List ℕ)
section_of page entries =
    option_map (section_bytes (ids_of entries)) (all_present (map (λ e. piece_of page e.1) entries))

abbrev pub property_stream : Properties → Option (List ℕ)
property_stream set =
    option_map (λ section. header_bytes set (least_version set) 1 48 ++ section) (section_of (page_of set) set.values)

-- each text can be written in the page
abbrev pub IsWritableValue : CodePage → PropertyValue → Type 0
IsWritableValue page (LpStr text) = IsWritable page text
IsWritableValue page _ = Unit {0}

abbrev pub AreWritable : Properties → Type 0
AreWritable set = AllByRecursion (λ e. IsWritableValue (page_of set) e.1) set.values

-- each text is UTF-8
abbrev pub IsUtf8Value : PropertyValue → Type 0
IsUtf8Value (LpStr text) = IsUtf8 text
IsUtf8Value _ = Unit {0}

abbrev pub HaveUtf8Texts : List (ℕ × PropertyValue) → Type 0
HaveUtf8Texts values = AllByRecursion (λ e. IsUtf8Value e.1) values
