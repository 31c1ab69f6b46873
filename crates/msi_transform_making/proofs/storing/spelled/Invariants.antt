use Rattle.std.proofs.Common.{◌≡◌, ◌++◌, drop}
use Rattle.std.specs.List.{flat_map}
use Rattle.msi_transform_records.specs.Records.{record_bytes}
use Rattle.msi_transform_making.proofs.storing.spelled.Given as goal

abbrev pub invariant-loop-record : goal.invariant-loop-record
invariant-loop-record l = record {
  whole : l.bytes.items ++ flat_map (record_bytes l.long l.shapes) (drop l.record-index l.records) ≡ flat_map (record_bytes l.long l.shapes) l.records;
}
