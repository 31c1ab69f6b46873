use Rattle.std.proofs.Common.{◌≡◌, ◌++◌, drop, map}
use Rattle.msi_transform_making.specs.Making.{listing_record}
use Rattle.msi_transform_pair.specs.Names.{names_in}
use Rattle.msi_transform_making.specs.Telling.{action_of}
use Rattle.msi_transform_making.proofs.schema_records.push_listings.Given as goal

abbrev pub invariant-loop-name : goal.invariant-loop-name
invariant-loop-name l = record {
  whole : l.records.items ++ map (listing_record (action_of l.telling 1)) (names_in (drop l.name-index l.names))
      ≡ l.fn.records.items ++ map (listing_record (action_of l.telling 1)) (names_in l.names);
}
