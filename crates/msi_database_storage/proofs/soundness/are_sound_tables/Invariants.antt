use Rattle.std.proofs.Common.{◌≡◌, Bool, map, take, true}
use Rattle.std.specs.FinMap.{entries}
use Rattle.std.specs.List.{list_all}
use Rattle.msi_database_changes.specs.Database.{is_readable_table}
use Rattle.msi_database_storage.specs.Kept.{AreAsLong, table_kept}
use Rattle.msi_database_storage.proofs.soundness.are_sound_tables.Given as goal

abbrev pub invariant-loop-table : goal.invariant-loop-table
invariant-loop-table l = (long : Bool) → AreAsLong long l.tables → list_all is_readable_table (map (table_kept (entries l.streams) long) (take l.table-index l.tables)) ≡ true
