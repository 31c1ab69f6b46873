use Rattle.std.proofs.Common.{◌≡◌, drop}
use Rattle.std.specs.FinMap.{entries}
use Rattle.std.specs.List.{fold}
use Rattle.msi_transform_making.specs.Making.{with_told_stream, with_told_streams}
use Rattle.msi_transform_making.proofs.storing.put_told_streams.Given as goal

abbrev pub invariant-loop-told : goal.invariant-loop-told
invariant-loop-told l = record {
  streams : fold (with_told_stream l.table.name) (entries l.streams) (drop l.told-index l.table.records) ≡ with_told_streams (entries l.fn.streams) l.table;
}
