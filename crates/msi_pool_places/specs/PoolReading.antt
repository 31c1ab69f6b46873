-- Scaffolding of proofs: how the pool's two streams are read, one step after the other. The format stands in `Pool`.
use Rattle.std.specs.Prelude.{◌≡◌, ℕ, ◌-◌, ◌^◌, Bool, true, false, List, [], ◌∷◌, ◌++◌, length, take, drop, Option}
use Rattle.std.specs.Prelude.{Some, None, option_map}
use Rattle.std.specs.Prelude.{nat_lt, ◌==◌, ◌||◌, if◌then◌else◌}
use Rattle.std.specs.Int.{w16, w32}
use Rattle.msi_base.specs.declared.codepage.CodePage.{CodePage}
use Rattle.msi_base.specs.Pages.{text_in, page_with_id}
use Rattle.msi_pool_places.specs.Pool.{Place, Entry}
pub use Rattle.msi_base.specs.Numbers.{number_at}
pub use Rattle.msi_base.specs.Results.{◌>>=◌, FailsAs, Gives}

-- the page of a header, and whether references are long
abbrev pub header_in : ℕ → Option (CodePage × Bool)
header_in n = if nat_lt n (2 ^ 31) then option_map (λ page. (page, false)) (page_with_id n)
    else option_map (λ page. (page, true)) (page_with_id (n - 2 ^ 31))

abbrev pub entry_with : ℕ → ℕ → Entry
entry_with len count = record { len = len; count = count }

-- the entry that stands in front, and the bytes after it
unfoldable pub entry_at : List ℕ → Option (Entry × List ℕ)
entry_at bytes = do
  len ← number_at w16 bytes
  count ← number_at w16 len.1
  if nat_lt 0 len.0 || (count.0 == 0) then Some (entry_with len.0 count.0, count.1)
      else option_map (λ long. (entry_with long.0 count.0, long.1)) (number_at w32 count.1)

abbrev pub place_with : Entry → List ℕ → Place
place_with e text = record { text = text; count = e.count }

-- the place whose text stands in front, and the bytes after it
abbrev pub place_in_front : CodePage → Entry → List ℕ → Option (Place × List ℕ)
place_in_front page e bytes = if nat_lt (length bytes) e.len then None
    else option_map (λ text. (place_with e text, drop e.len bytes)) (text_in page (take e.len bytes))

-- the place whose text stands in front is put behind others, and these bytes are left
abbrev pub IsPut : CodePage → Entry → List ℕ → List Place → List Place → List ℕ → Type 0
IsPut page e bytes before after rest =
    (place : Place) × (place_in_front page e bytes ≡ Some (place, rest)) × (after ≡ before ++ place ∷ [])
