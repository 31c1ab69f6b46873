-- The bytes of a text that may be shared.
use Rattle.std.specs.Prelude.{ℕ, List, string_bytes}
use Rattle.std.specs.Rc.{rc_str_bytes}
use Rattle.msi_pool_places.specs.declared.shared.Owned.{Owned}
use Rattle.msi_pool_places.specs.declared.shared.Owned.TheVariants.{Alone, Together, Piece}

-- whoever has them
abbrev pub bytes_of : Owned → List ℕ
bytes_of (Alone text) = string_bytes text
bytes_of (Together text) = rc_str_bytes text
bytes_of (Piece piece) = piece
