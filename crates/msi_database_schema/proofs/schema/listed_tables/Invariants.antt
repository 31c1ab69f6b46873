use Rattle.std.proofs.Common.{◌≡◌, Some, take}
use Rattle.std.specs.Prelude.{option_map}
use Rattle.msi_database_schema.specs.ListedTables.{with_system}
use Rattle.msi_database_schema.proofs.ListingLemmas.{all_read}
use Rattle.msi_database_schema.proofs.schema.listed_tables.Given as goal

abbrev pub invariant-loop-row : goal.invariant-loop-row
invariant-loop-row l = record {
  read : option_map (with_system l.long) (all_read l.long l.columns l.validation (take l.row-index l.tables)) ≡ Some l.read.items;
}
