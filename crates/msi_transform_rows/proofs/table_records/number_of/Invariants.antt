use Rattle.std.proofs.Common.{◌≡◌, ◌+◌, length}
use Rattle.msi_transform.specs.RecordsByTable.{by_text}
use Rattle.msi_transform_rows.specs.TableRecords.{number_of, place_among}
use Rattle.msi_transform_rows.proofs.table_records.number_of.Given as goal

-- the tables before this one have other names
abbrev pub invariant-loop-table : goal.invariant-loop-table
invariant-loop-table l = record {
  place : l.number + place_among l.name (by_text l.table-iterator) ≡ number_of l.transform l.name;
  count : l.number + length l.table-iterator ≡ length l.transform.tables;
}
