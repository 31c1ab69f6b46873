-- The bytes of a stream, which may be a part of a file's.
use Rattle.std.specs.Prelude.{ℕ, List}
use Rattle.msi_container_format.specs.declared.contents.Held.{Held}
use Rattle.msi_container_format.specs.declared.contents.Held.TheVariants.{Alone, Part}

-- whoever has them
abbrev pub bytes_of : Held → List ℕ
bytes_of (Alone bytes) = bytes.items
bytes_of (Part part) = part
