-- What holds of the bytes that devices hold.
use Rattle.std.specs.Prelude.{◌≡◌, ℕ, ◌+◌, ◌≤◌, List, ◌++◌, length, take, drop, Option, option_map}
use Rattle.msi_container_device.specs.Held.{bytes_told, Held, all_bytes, place_of, with_piece, StandsInPart}

-- bytes with a piece put over them from a place on
abbrev pub put_at : List ℕ → ℕ → List ℕ → List ℕ
put_at bytes place piece = take place bytes ++ piece ++ drop (place + length piece) bytes

-- a piece stands where the place was, and the place is behind it
abbrev pub PiecesStandAtThePlace : Type 0
PiecesStandAtThePlace = (piece : List ℕ) (h : Held)
    → (all_bytes (with_piece piece h) ≡ put_at (all_bytes h) (place_of h) piece)
    × (place_of (with_piece piece h) ≡ place_of h + length piece)

-- a piece put behind another is their concatenation
abbrev pub PiecesJoin : Type 0
PiecesJoin = (piece next : List ℕ) (held : Option Held)
    → option_map (with_piece next) (option_map (with_piece piece) held) ≡ option_map (with_piece (piece ++ next)) held

-- a beginning of a piece stands where none of it does, where all of it does, where a beginning of its front does, and
-- where its front does with a beginning of the rest behind it
pub record PartsJoin : Type 0 where
  pub none : (piece : List ℕ) (old new : Option Held) → bytes_told new ≡ bytes_told old → StandsInPart piece old new
  pub whole : (piece : List ℕ) (old new : Option Held)
      → bytes_told new ≡ bytes_told (option_map (with_piece piece) old) → StandsInPart piece old new
  pub front : (piece next : List ℕ) (old new : Option Held)
      → StandsInPart piece old new → StandsInPart (piece ++ next) old new
  pub behind : (piece next : List ℕ) (old new : Option Held)
      → StandsInPart next (option_map (with_piece piece) old) new → StandsInPart (piece ++ next) old new

-- a piece as long as what lies ahead takes the place of all that
abbrev pub PiecesToTheEnd : Type 0
PiecesToTheEnd = (piece : List ℕ) (h : Held) → length h.ahead ≤ length piece
    → all_bytes (with_piece piece h) ≡ h.before ++ piece
