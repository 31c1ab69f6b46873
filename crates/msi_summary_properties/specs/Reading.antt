-- Reading a property set from its bytes, as a computation.
use Rattle.std.specs.Prelude.{ℕ, zero, suc, ◌+◌, ◌-◌, nat_lt, ◌==◌, if◌then◌else◌, Option, Some, None, option_map}
use Rattle.std.specs.Prelude.{is_some}
use Rattle.std.specs.Prelude.{List, [], ◌∷◌, length, take, drop, map, zip, slice_index}
use Rattle.std.specs.Ordering.{nat_cmp}
use Rattle.std.specs.Map.{lookup}
use Rattle.std.specs.BTreeMap.{is_at, insert_entry}
use Rattle.std.specs.Int.{w8, w16, w32, w64, cast_signed}
use Rattle.msi_base.specs.declared.codepage.CodePage.{CodePage}
use Rattle.msi_base.specs.declared.codepage.CodePage.TheVariants as page
use Rattle.msi_base.specs.Pages.{text_in}
use Rattle.msi_base.specs.Lists.{has_pair, entry_where}
use Rattle.msi_base.specs.Numbers.{bytes_at, number_at}
use Rattle.msi_base.specs.Results.{◌>>=◌}
use Rattle.msi_summary_properties.specs.declared.propset.PropertyValue.{PropertyValue}
use Rattle.msi_summary_properties.specs.declared.propset.PropertyValue.TheVariants.{Empty, Null, I1, I2, I4, LpStr}
use Rattle.msi_summary_properties.specs.declared.propset.PropertyValue.TheVariants.{FileTime}
use Rattle.msi_summary_properties.specs.declared.propset.OperatingSystem.{OperatingSystem}
use Rattle.msi_summary_properties.specs.declared.propset.OperatingSystem.TheVariants as os
use Rattle.msi_summary_properties.specs.Properties.{Properties, page_in, set_of}
use Rattle.msi_summary_properties.specs.PropertyStream.{by_id}

-- a text whose length with the null is n; 0 is read as 1
abbrev pub string_with_len : CodePage → ℕ → List ℕ → Option (List ℕ)
string_with_len page n rest = if nat_lt (n - 1) (length rest)
    then (if slice_index rest (n - 1) == 0 then text_in page (take (n - 1) rest) else None)
    else None

unfoldable pub string_at : CodePage → List ℕ → Option (List ℕ)
string_at page bytes = do
  n ← number_at w32 bytes
  string_with_len page n.0 n.1

unfoldable pub payload_at : ℕ → CodePage → ℕ → List ℕ → Option PropertyValue
payload_at version page t rest =
    if t == 0 then Some Empty else
    if t == 1 then Some Null else
    if t == 2 then option_map (λ n. I2 (cast_signed w16 n.0)) (number_at w16 rest) else
    if t == 3 then option_map (λ n. I4 (cast_signed w32 n.0)) (number_at w32 rest) else
    if t == 16 then (if version == 1 then option_map (λ n. I1 (cast_signed w8 n.0)) (number_at w8 rest) else None) else
    if t == 30 then option_map LpStr (string_at page rest) else
    if t == 64 then option_map (λ n. FileTime n.0) (number_at w64 rest) else None

-- the value whose bytes begin here
unfoldable pub value_at : ℕ → CodePage → List ℕ → Option PropertyValue
value_at version page bytes = do
  t ← number_at w32 bytes
  payload_at version page t.0 t.1

abbrev pub os_with_number : ℕ → Option OperatingSystem
os_with_number zero = Some os.Win16
os_with_number (suc zero) = Some os.Macintosh
os_with_number (suc (suc zero)) = Some os.Win32
os_with_number (suc (suc (suc n))) = None

-- what stands in front of the values
pub record Header : Type 0 where
  pub version : ℕ
  pub os_version : ℕ
  pub os : OperatingSystem
  pub clsid : List ℕ
  pub reserved : ℕ
  pub format_identifier : List ℕ
  pub section : ℕ

-- a header with the right mark, a known version and a reserved number of at least 1
abbrev pub checked : ℕ → Header → Option Header
checked mark h = if mark == 0xFFFE
    then (if nat_lt h.version 2 then (if nat_lt 0 h.reserved then Some h else None) else None)
    else None

unfoldable pub header_at : List ℕ → Option Header
header_at bytes = do
  mark ← number_at w16 bytes
  version ← number_at w16 mark.1
  os_version ← number_at w16 version.1
  number ← number_at w16 os_version.1
  clsid ← bytes_at 16 number.1
  reserved ← number_at w32 clsid.1
  format ← bytes_at 16 reserved.1
  section ← number_at w32 format.1
  system ← os_with_number number.0
  checked mark.0 (record {
    version = version.0;
    os_version = os_version.0;
    os = system;
    clsid = clsid.0;
    reserved = reserved.0;
    format_identifier = format.0;
    section = section.0;
  })

unfoldable pub pairs_at : ℕ → List ℕ → Option (List (ℕ × ℕ))
pairs_at zero bytes = Some []
pairs_at (suc n) bytes = do
  id ← number_at w32 bytes
  place ← number_at w32 id.1
  others ← pairs_at n place.1
  Some ((id.0, place.0) ∷ others)

unfoldable pub section_at : List ℕ → Option (List (ℕ × ℕ))
section_at bytes = do
  size ← number_at w32 bytes
  count ← number_at w32 size.1
  pairs_at count.0 count.1

-- the values at these places
unfoldable pub values_in : ℕ → CodePage → List ℕ → ℕ → List (ℕ × ℕ) → Option (List PropertyValue)
values_in version page bytes section [] = Some []
values_in version page bytes section (p ∷ pairs) = do
  value ← value_at version page (drop (section + p.1) bytes)
  values ← values_in version page bytes section pairs
  Some (value ∷ values)

-- the page that property 1 states, if there is one
abbrev pub page_stated : ℕ → List ℕ → ℕ → Option ℕ → Option CodePage
page_stated version bytes section None = page_in None
page_stated version bytes section (Some place) =
    value_at version page.Utf8 (drop (section + place) bytes) >>= λ v. page_in (Some v)

abbrev pub set_with : Header → List (ℕ × PropertyValue) → Properties
set_with h values = set_of h.os h.os_version h.clsid h.format_identifier values

unfoldable pub set_in : List ℕ → Option Properties
set_in bytes = do
  h ← header_at bytes
  pairs ← section_at (drop h.section bytes)
  page ← if has_pair (λ p q. p.0 == q.0) pairs then None
      else page_stated h.version bytes h.section (entry_where (λ k. k == 1) pairs)
  values ← values_in h.version page bytes h.section pairs
  Some (set_with h (by_id (zip (map (λ p. p.0) pairs) values)))

-- the values put into what is there, none at an id that is there
unfoldable pub put_values :
    ℕ → CodePage → List ℕ → ℕ → List (ℕ × ℕ) → List (ℕ × PropertyValue) → Option (List (ℕ × PropertyValue))
put_values version page bytes section [] entries = Some entries
put_values version page bytes section (p ∷ pairs) entries = do
  value ← value_at version page (drop (section + p.1) bytes)
  if is_some (lookup (is_at (nat_cmp p.0)) entries) then None
      else put_values version page bytes section pairs (insert_entry nat_cmp entries p.0 value)

-- the same set, as the code makes it
unfoldable pub set_put : List ℕ → Option Properties
set_put bytes = do
  h ← header_at bytes
  pairs ← section_at (drop h.section bytes)
  page ← page_stated h.version bytes h.section (entry_where (λ k. k == 1) pairs)
  values ← put_values h.version page bytes h.section pairs []
  Some (set_with h values)
