-- The two streams of the string pool (`_StringPool` and `_StringData`).
use Rattle.std.specs.Prelude.{◌≡◌, ℕ, ◌+◌, ◌^◌, ◌<◌, ◌≤◌, ◌⊎◌, Bool, false, not, List, [], ◌∷◌, ◌++◌, map, length}
use Rattle.std.specs.Prelude.{Option, Some, option_map, nat_lt, ◌==◌, ◌&&◌, ◌||◌, if◌then◌else◌, zip, IsUtf8}
use Rattle.std.specs.Int.{w16, w32, to_le_bytes}
use Rattle.std.specs.List.{enumerate_from, flat_map}
use Rattle.std.specs.List as lists
use Rattle.msi_base.specs.declared.codepage.CodePage.{CodePage}
use Rattle.msi_base.specs.Pages.{Reads, IsWritable, bytes_in, page_id, page_with_id}
use Rattle.msi_base.specs.Lists.{all_present}

-- a place holds a text and the number of cells that name it; a count of 0 makes it free
pub record Place : Type 0 where
  pub text : List ℕ
  pub count : ℕ

-- place i of the list has the number i + 1; `long` references have three bytes
pub record Pool : Type 0 where
  pub page : CodePage
  pub long : Bool
  pub places : List Place

-- each place is named by fewer than 2^16 cells
abbrev pub CountsFit : List Place → Type 0
CountsFit places = lists.AllByRecursion (λ p. p.count < 2 ^ 16) places

-- an entry: how many bytes the text has in the data stream, and the place's count
pub record Entry : Type 0 where
  pub len : ℕ
  pub count : ℕ

abbrev pub short_entry : Entry → List ℕ
short_entry e = to_le_bytes w16 e.len ++ to_le_bytes w16 e.count

abbrev pub long_entry : Entry → List ℕ
long_entry e = to_le_bytes w16 0 ++ to_le_bytes w16 e.count ++ to_le_bytes w32 e.len

-- a length of 16 bits; or a length of 0 with a count, and the length in 32 bits behind
abbrev pub SpellsEntry : List ℕ → Entry → Type 0
SpellsEntry bytes e = (e.count < 2 ^ 16) ×
    (((0 < e.len) ⊎ (e.count ≡ 0)) × (e.len < 2 ^ 16) × (bytes ≡ short_entry e)
    ⊎ (0 < e.count) × (e.len < 2 ^ 32) × (bytes ≡ long_entry e))

-- the entries in order, and at most one stray byte
abbrev pub SpellsEntries : List ℕ → List Entry → Type 0
SpellsEntries bytes [] = length bytes < 2
SpellsEntries bytes (e ∷ es) =
    (entry : List ℕ) × (others : List ℕ) × (bytes ≡ entry ++ others) × SpellsEntry entry e × SpellsEntries others es

-- the page's id, whose top bit says that references are long, and the entries
abbrev pub header_of : ℕ → Bool → List ℕ
header_of id long = to_le_bytes w32 (id + (if long then 2 ^ 31 else 0))

abbrev pub SpellsPool : List ℕ → CodePage → Bool → List Entry → Type 0
SpellsPool bytes page long entries = (id : ℕ) × (others : List ℕ) × (id < 2 ^ 31) × (page_with_id id ≡ Some page)
    × (bytes ≡ header_of id long ++ others) × SpellsEntries others entries × (length entries ≤ 16777215)

-- the texts of these lengths in order, each read in the page; bytes past the last are ignored
abbrev pub SpellsTexts : CodePage → List ℕ → List Entry → List Place → Type 0
SpellsTexts page bytes [] [] = Unit {0}
SpellsTexts page bytes (e ∷ es) (p ∷ ps) = (piece : List ℕ) × (others : List ℕ) × (bytes ≡ piece ++ others)
    × (length piece ≡ e.len) × Reads page piece p.text × (p.count ≡ e.count) × SpellsTexts page others es ps
SpellsTexts page bytes [] (p ∷ ps) = ⊥
SpellsTexts page bytes (e ∷ es) [] = ⊥

-- the two streams hold the pool
abbrev pub IsPool : List ℕ → List ℕ → Pool → Type 0
IsPool pool_stream data_stream pool = (entries : List Entry)
    × SpellsPool pool_stream pool.page pool.long entries × SpellsTexts pool.page data_stream entries pool.places

-- what the pool's stream says: all but the texts
pub record PoolStream : Type 0 where
  pub page : CodePage
  pub long : Bool
  pub entries : List Entry

abbrev pub IsPoolStream : List ℕ → PoolStream → Type 0
IsPoolStream bytes stream = SpellsPool bytes stream.page stream.long stream.entries

-- the pool of a stream with these places
abbrev pub pool_with : PoolStream → List Place → Pool
pool_with stream places = record { page = stream.page; long = stream.long; places = places }

-- The plain spelling, which is what is written. The bytes of a place: none where it is free
abbrev pub place_bytes : CodePage → Place → Option (List ℕ)
place_bytes page p = if p.count == 0 then Some [] else bytes_in page p.text

-- short where it fits; an empty text in use is long
abbrev pub plain_entry : Entry → List ℕ
plain_entry e = if (e.count == 0) || (nat_lt 0 e.len && nat_lt e.len (2 ^ 16)) then short_entry e else long_entry e

abbrev pub entry_of : Place → List ℕ → Entry
entry_of p bytes = record { len = length bytes; count = p.count }

-- the pieces of the data stream, unless the page can't carry a text
abbrev pub pieces_of : Pool → Option (List (List ℕ))
pieces_of pool = all_present (map (place_bytes pool.page) pool.places)

abbrev pub data_stream : Pool → Option (List ℕ)
data_stream pool = option_map (flat_map (λ piece. piece)) (pieces_of pool)

abbrev pub plain_entries : List Place → List (List ℕ) → List ℕ
plain_entries places pieces = flat_map (λ e. plain_entry (entry_of e.0 e.1)) (zip places pieces)

abbrev pub pool_stream : Pool → Option (List ℕ)
pool_stream pool = option_map (λ pieces. header_of (page_id pool.page) pool.long ++ plain_entries pool.places pieces)
    (pieces_of pool)

-- each text in use can be written in the page
abbrev pub AreWritable : Pool → Type 0
AreWritable pool = lists.AllByRecursion (λ p. (0 < p.count) → IsWritable pool.page p.text) pool.places

-- each text is UTF-8
abbrev pub HaveUtf8Texts : List Place → Type 0
HaveUtf8Texts places = lists.AllByRecursion (λ p. IsUtf8 p.text) places

-- a place loses its text where it is free and no cell names it
abbrev pub forgotten : Bool → Place → Place
forgotten named p = record { text = if (p.count == 0) && not named then [] else p.text; count = p.count }

-- the places when those texts are lost; the marks tell which places are named
abbrev pub without_unnamed_texts : List Bool → List Place → List Place
without_unnamed_texts marks places = map (λ e. forgotten e.0 e.1) (zip marks places)

-- a pool as it is written: each free place has the empty text
abbrev pub as_written : Pool → Pool
as_written pool = record { page = pool.page; long = pool.long; places = map (forgotten false) pool.places }

-- each free place has the empty text
abbrev pub PlacesWritten : List Place → Type 0
PlacesWritten places = lists.AllByRecursion (λ p. p.count ≡ 0 → p.text ≡ []) places

-- the places, whose numbers begin at 1, when the texts are lost of those that are free and don't pass the test
abbrev pub with_named_texts : (ℕ → Bool) → List Place → List Place
with_named_texts is_named places = map (λ e. forgotten (is_named e.0) e.1) (enumerate_from 1 places)
