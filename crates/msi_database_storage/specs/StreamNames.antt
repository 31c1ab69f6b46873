-- What the names and the bytes of a container's streams keep to.
use Rattle.std.specs.Prelude.{◌≡◌, ◌<◌, true, length, All}
use Rattle.std.specs.List.{AllByRecursion}
use Rattle.msi_container_format.specs.Names.{is_name_length}
use Rattle.msi_database_storage.specs.Streams.{Streams}

-- each name is as long as a container's name may be
abbrev pub HaveShortNames : Streams → Type 0
HaveShortNames streams = AllByRecursion (λ s. is_name_length (length s.0) ≡ true) streams

-- each stream holds bytes
abbrev pub HoldBytes : Streams → Type 0
HoldBytes streams = AllByRecursion (λ s. All (λ b. b < 256) s.1) streams
