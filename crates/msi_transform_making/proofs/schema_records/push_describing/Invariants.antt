use Rattle.std.proofs.Common.{◌≡◌, ◌++◌, drop, map}
use Rattle.msi_transform_making.specs.Making.{describing_record}
use Rattle.msi_transform_making.proofs.schema_records.push_describing.Given as goal

abbrev pub invariant-loop-row : goal.invariant-loop-row
invariant-loop-row l = record {
  whole : l.records.items ++ map (describing_record l.is_kept) (drop l.row-index l.rows) ≡ l.fn.records.items ++ map (describing_record l.is_kept) l.rows;
}
