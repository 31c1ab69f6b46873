-- What the indexes of the pool's places have: which places are free, and which have a text and room for one cell more.
use Rattle.std.specs.Prelude.{◌≡◌, ℕ, ◌<◌, Bool, true, false, ◌&&◌, ◌==◌, List, Option, Some, None, nat_lt, bytes_eq}
use Rattle.std.specs.Prelude.{slice_get, if◌then◌else◌}
use Rattle.std.specs.List.{list_any}
use Rattle.std.specs.BTreeMap.{is_at}
use Rattle.std.specs.Ordering.{nat_cmp}
use Rattle.msi_pool_places.specs.Pool.{Place}

-- a place that is there and free
abbrev pub is_free : Option Place → Bool
is_free None = false
is_free (Some p) = p.count == 0

-- a place that is in use, has the text, and can be named once more
abbrev pub has_room_for : List ℕ → Option Place → Bool
has_room_for text None = false
has_room_for text (Some p) = nat_lt 0 p.count && (nat_lt p.count 65535 && bytes_eq p.text text)

-- whether a number is among these
abbrev pub is_among : List ℕ → ℕ → Bool
is_among numbers i = list_any (is_at (nat_cmp i)) numbers

-- the least number that passes the test; none where none does
abbrev pub IsLeast : (ℕ → Bool) → Option ℕ → Type 0
IsLeast test None = (i : ℕ) → test i ≡ false
IsLeast test (Some i) = (test i ≡ true) × ((j : ℕ) → j < i → test j ≡ false)

-- the lesser of two numbers, where there is one
abbrev pub lesser : Option ℕ → Option ℕ → Option ℕ
lesser None b = b
lesser (Some i) None = Some i
lesser (Some i) (Some j) = if nat_lt j i then Some j else Some i

-- the numbers are those of the free places, counted from 0
abbrev pub AreFree : List ℕ → List Place → Type 0
AreFree numbers places = (i : ℕ) → is_among numbers i ≡ is_free (slice_get places i)
