-- Which pools are refused when they are written; and, as scaffolding of proofs, what is written of a place.
use Rattle.std.specs.Prelude.{ℕ, ◌^◌, Bool, true, List, [], length, not, nat_lt, Option, Some, None, unwrap_or}
use Rattle.std.specs.List.{list_any}
use Rattle.msi_base.specs.declared.codepage.CodePage.{CodePage}
use Rattle.msi_pool_places.specs.Pool.{Place, Pool, place_bytes, plain_entry, entry_of}

-- the page can't carry the text, or the text has more bytes than an entry can tell
abbrev pub is_refused_spelling : Option (List ℕ) → Bool
is_refused_spelling None = true
is_refused_spelling (Some bytes) = not (nat_lt (length bytes) (2 ^ 32))

-- one of these places can't be written in the page
abbrev pub has_refused_text : CodePage → List Place → Bool
has_refused_text page places = list_any (λ p. is_refused_spelling (place_bytes page p)) places

-- a pool that isn't written
abbrev pub is_refused : Pool → Bool
is_refused pool = has_refused_text pool.page pool.places

-- scaffolding: what is written of a place that isn't refused, in the data stream and in the pool's stream
abbrev pub piece_of : CodePage → Place → List ℕ
piece_of page p = unwrap_or (place_bytes page p) []

abbrev pub entry_in : CodePage → Place → List ℕ
entry_in page p = plain_entry (entry_of p (piece_of page p))
