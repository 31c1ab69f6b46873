-- What a transform leaves, as code has it, and the package that it was applied to.
use Rattle.std.specs.Prelude.{◌≡◌, ◌≤◌, ℕ, true, List, length}
use Rattle.std.specs.FinMap.{entries}
use Rattle.msi_container_format.specs.Names.{is_name_length}
use Rattle.msi_database_schema.specs.Keys.{table_key}
use Rattle.msi_database_storage.specs.Kept.{Kept}
use Rattle.msi_transform_applying.specs.Applying.{Left, TableAnew}
use Rattle.msi_transform_schema.specs.SchemaChanges.{SchemaChange}
use Rattle.msi_transform_applying.specs.declared.leaving.Left.{Left as Held}

abbrev pub left_in_hand : Held → Left
left_in_hand l = record { pool = l.pool; streams = entries l.streams }

abbrev pub base_of : SchemaChange → Kept
base_of change = record { database = change.database; streams = change.streams }

-- a container can have the stream of a table of this name
abbrev pub HasTableKey : List ℕ → Type 0
HasTableKey name = is_name_length (length (table_key name)) ≡ true

-- a table that has rows has a name whose stream a container can have
abbrev pub CanBeStored : TableAnew → Type 0
CanBeStored t = 1 ≤ length t.rows → HasTableKey t.name
