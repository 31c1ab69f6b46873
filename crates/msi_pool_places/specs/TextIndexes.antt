-- What the index of texts has.
use Rattle.std.specs.Prelude.{◌≡◌, ℕ, Bool, ◌&&◌, ◌==◌, List, bytes_eq, slice_get}
use Rattle.std.specs.List.{list_any}
use Rattle.std.specs.BTreeMap.{is_at}
use Rattle.std.specs.Ordering.{nat_cmp, ordering_then}
use Rattle.std.specs.declared.cmp.Ordering.{Ordering}
use Rattle.std.specs.Cmp.Lexicographic.{slice_cmp}
use Rattle.msi_pool_places.specs.Pool.{Place}
use Rattle.msi_pool_places.specs.PoolIndexes.{has_room_for}
use Rattle.msi_pool_places.specs.declared.texts.Entry.{Entry}

-- by the text's bytes, and then by the place
abbrev pub entry_cmp : Entry → Entry → Ordering
entry_cmp a b = ordering_then (slice_cmp nat_cmp a.text b.text) (nat_cmp a.at b.at)

-- whether the index has the text with the place
abbrev pub is_entered : List Entry → List ℕ → ℕ → Bool
is_entered entries text i = list_any (is_at (entry_cmp (record { text = text; at = i }))) entries

-- the one text with the one place
abbrev pub is_same : List ℕ → ℕ → List ℕ → ℕ → Bool
is_same text i other j = bytes_eq other text && (i == j)

-- the entries are the places in use that can be named once more, each with its text
abbrev pub AreOpen : List Entry → List Place → Type 0
AreOpen entries places = (text : List ℕ) (i : ℕ) → is_entered entries text i ≡ has_room_for text (slice_get places i)
