use Rattle.std.proofs.Common.{◌≡◌, ◌++◌, drop}
use Rattle.std.specs.List.{flat_map}
use Rattle.msi_transform_making.specs.Making.{records_of_columns}
use Rattle.msi_transform_pair.specs.Names.{names_in}
use Rattle.msi_transform_making.proofs.schema_records.records_of_columns.Given as goal

abbrev pub invariant-loop-name : goal.invariant-loop-name
invariant-loop-name l = record {
  whole : l.records.items ++ flat_map (records_of_columns l.old.kept l.new.kept) (names_in (drop l.name-index l.names))
      ≡ flat_map (records_of_columns l.old.kept l.new.kept) (names_in l.names);
}
