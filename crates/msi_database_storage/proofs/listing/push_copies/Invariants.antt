use Rattle.std.proofs.Common.{◌≡◌, ◌++◌, take}
use Rattle.msi_database_storage.proofs.listing.push_copies.Given as goal

abbrev pub invariant-loop-table : goal.invariant-loop-table
invariant-loop-table l = l.copies.items ≡ l.fn.copies.items ++ take l.table-index l.tables
