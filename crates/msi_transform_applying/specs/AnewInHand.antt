-- The tables that are stored anew, as code has them in hand.
use Rattle.std.specs.FinMap.{entries}
use Rattle.msi_database_changes.specs.Texts.{in_use}
use Rattle.msi_transform_applying.specs.Applying.{TablesChanged, TablesInHand}
use Rattle.msi_transform_applying.specs.declared.tables_in_hand.TablesInHand.{TablesInHand as Held}
use Rattle.msi_transform_applying.specs.declared.tables_in_hand.TablesChanged.{TablesChanged as HeldChanged}

abbrev pub anew_in_hand : Held → TablesInHand
anew_in_hand s = record { tables = s.tables.items; pool = in_use s.pool; streams = s.streams.items }

abbrev pub changed_in_hand : HeldChanged → TablesChanged
changed_in_hand c = record { told = entries c.told; tables = anew_in_hand c.tables }
