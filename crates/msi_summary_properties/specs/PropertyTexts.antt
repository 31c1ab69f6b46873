-- The bytes of a property's text.
use Rattle.std.specs.Prelude.{ℕ, List}
use Rattle.msi_summary_properties.specs.declared.texts.Owned.{Owned}
use Rattle.msi_summary_properties.specs.declared.texts.Owned.TheVariants.{Alone, Piece}

-- whoever has them
abbrev pub bytes_of : Owned → List ℕ
bytes_of (Alone text) = text
bytes_of (Piece piece) = piece
