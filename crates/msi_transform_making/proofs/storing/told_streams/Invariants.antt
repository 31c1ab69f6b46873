use Rattle.std.proofs.Common.{◌≡◌, [], drop}
use Rattle.std.specs.FinMap.{entries}
use Rattle.std.specs.List.{fold}
use Rattle.msi_transform_making.specs.Making.{with_told_streams}
use Rattle.msi_transform_making.proofs.storing.told_streams.Given as goal

abbrev pub invariant-loop-table : goal.invariant-loop-table
invariant-loop-table l = record {
  streams : fold with_told_streams (entries l.streams) (drop l.table-index l.tables) ≡ fold with_told_streams [] l.tables;
}
