-- The bytes of texts one behind the other, which may be a part of bytes that others share.
use Rattle.std.specs.Prelude.{ℕ, List, string_bytes}
use Rattle.msi_base.specs.declared.buffer.Held.{Held}
use Rattle.msi_base.specs.declared.buffer.Held.TheVariants.{Alone, Part}

-- whoever has them
abbrev pub bytes_of : Held → List ℕ
bytes_of (Alone whole) = string_bytes whole
bytes_of (Part part) = part
