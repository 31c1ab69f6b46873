use Rattle.std.proofs.Common.{◌≡◌, drop}
use Rattle.msi_database_storage.specs.Kept.{table_kept_at}
use Rattle.msi_database_storage.proofs.listing.table_named.Given as goal

abbrev pub invariant-loop-table : goal.invariant-loop-table
invariant-loop-table l = table_kept_at l.name l.tables ≡ table_kept_at l.name (drop l.table-index l.tables)
