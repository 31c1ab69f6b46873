-- Streams that are stored together: each name gets its bytes, or has no stream.
use Rattle.std.specs.Prelude.{◌≢◌, List, [], ◌∷◌}
use Rattle.std.specs.List.{AllByRecursion}
use Rattle.msi_container_format.specs.Streams.{Streams, with_or_without}
use Rattle.msi_database_changes.specs.declared.storing.Stored.{Stored}

abbrev pub stored_all : Streams → List Stored → Streams
stored_all m [] = m
stored_all m (e ∷ es) = stored_all (with_or_without m e.name e.bytes) es

-- no name stands twice
abbrev pub HaveOwnNames : List Stored → Type 0
HaveOwnNames [] = Unit {0}
HaveOwnNames (e ∷ es) = AllByRecursion (λ f. f.name ≢ e.name) es × HaveOwnNames es
