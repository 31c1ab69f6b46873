-- Streams by name.
use Rattle.std.specs.Prelude.{◌≡◌, ℕ, List, Option, Some, None}
use Rattle.std.specs.FinMap.{FinMap, get, insert, remove}
use Rattle.msi_container_format.specs.Names.{name_cmp}

-- the bytes of each stream, by the units of its name
abbrev pub Streams : Type 0
Streams = FinMap name_cmp (List ℕ)

-- with these bytes at a name, or with no stream there
abbrev pub with_or_without : Streams → List ℕ → Option (List ℕ) → Streams
with_or_without streams name None = remove streams name
with_or_without streams name (Some bytes) = insert streams name bytes

-- What was there before a stream was put at its name, put back, leaves the streams as they were.
abbrev pub PutBackUndoesReplace : Type 0
PutBackUndoesReplace = (streams : Streams) (name bytes : List ℕ)
    → with_or_without (insert streams name bytes) name (get streams name) ≡ streams
