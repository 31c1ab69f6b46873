-- The bytes that a source or a device holds, and what calls do to them.
use Rattle.std.specs.Prelude.{◌≡◌, ℕ, ◌≤◌, Bool, List, [], ◌++◌, length, take, drop, Option, option_map}

-- bytes cut at a place: those before it, and those from it on
pub record Held : Type 0 where
  pub before : List ℕ
  pub ahead : List ℕ

abbrev pub all_bytes : Held → List ℕ
all_bytes h = h.before ++ h.ahead

abbrev pub place_of : Held → ℕ
place_of h = length h.before

-- bytes at the first of them
abbrev pub from_first : List ℕ → Held
from_first bytes = record { before = []; ahead = bytes }

-- the place moved to the start, to the end, to byte n, and n bytes on
abbrev pub at_start : Held → Held
at_start h = from_first (all_bytes h)

abbrev pub at_end : Held → Held
at_end h = record { before = all_bytes h; ahead = [] }

abbrev pub at_place : ℕ → Held → Held
at_place n h = record { before = take n (all_bytes h); ahead = drop n (all_bytes h) }

abbrev pub further : ℕ → Held → Held
further n h = record { before = h.before ++ take n h.ahead; ahead = drop n h.ahead }

-- a piece put over the bytes from the place on and past the end, and the place moved behind it
abbrev pub with_piece : List ℕ → Held → Held
with_piece piece h = record { before = h.before ++ piece; ahead = drop (length piece) h.ahead }

-- all the bytes, where they are told
abbrev pub bytes_told : Option Held → Option (List ℕ)
bytes_told held = option_map all_bytes held

-- some beginning of the piece was put there
pub record StandsInPart (piece : List ℕ) (old new : Option Held) : Type 0 where
  pub count : ℕ
  pub within : count ≤ length piece
  pub bytes : bytes_told new ≡ bytes_told (option_map (with_piece (take count piece)) old)

-- a device in memory: what it holds, and whether a call failed
pub record Stored : Type 0 where
  pub held : Held
  pub failed : Bool
