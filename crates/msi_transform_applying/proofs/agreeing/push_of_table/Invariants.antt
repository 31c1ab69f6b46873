use Rattle.std.proofs.Common.{◌≡◌, ◌++◌, drop}
use Rattle.std.specs.List.{flat_map}
use Rattle.msi_transform_applying.specs.ExpectedStreams.{row_expects}
use Rattle.msi_transform_applying.specs.LeftInHand.{base_of}
use Rattle.msi_transform_applying.proofs.agreeing.push_of_table.Given as goal

-- with what the rows to come expect there is what all do
abbrev pub invariant-loop-key : goal.invariant-loop-key
invariant-loop-key l =
    l.expected.items ++ flat_map (row_expects (base_of l.change) l.change.by l.said l.table.name) (drop l.key-index l.table.rows)
    ≡ l.fn.expected.items ++ flat_map (row_expects (base_of l.change) l.change.by l.said l.table.name) l.table.rows
