use Rattle.std.proofs.Common.{◌≡◌, ◌++◌, drop}
use Rattle.std.specs.List.{flat_map}
use Rattle.msi_transform_applying.specs.AnewInHand.{changed_in_hand}
use Rattle.msi_transform_applying.specs.ExpectedStreams.{staying_expects}
use Rattle.msi_transform_applying.specs.LeftInHand.{base_of}
use Rattle.msi_transform_applying.proofs.agreeing.push_of_package.Given as goal

-- with what the tables to come expect there is what all do
abbrev pub invariant-loop-table : goal.invariant-loop-table
invariant-loop-table l =
    l.expected.items ++ flat_map (staying_expects (base_of l.change) l.change.by (changed_in_hand l.changed)) (drop l.table-index l.change.database.tables)
    ≡ l.fn.expected.items ++ flat_map (staying_expects (base_of l.change) l.change.by (changed_in_hand l.changed)) l.change.database.tables
