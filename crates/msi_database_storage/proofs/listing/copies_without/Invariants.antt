use Rattle.std.proofs.Common.{◌≡◌, ◌++◌, drop}
use Rattle.msi_database_storage.specs.Kept.{without_table_kept}
use Rattle.msi_database_storage.proofs.listing.copies_without.Given as goal

abbrev pub invariant-loop-table : goal.invariant-loop-table
invariant-loop-table l = l.copies.items ++ without_table_kept l.name (drop l.table-index l.tables) ≡ without_table_kept l.name l.tables
