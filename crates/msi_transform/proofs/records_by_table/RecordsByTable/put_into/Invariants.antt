use Rattle.std.proofs.Common.{◌≡◌}
use Rattle.std.specs.FinMap.{entries}
use Rattle.msi_transform.specs.RecordsByTable.{by_text}
use Rattle.msi_transform.specs.WrittenTransforms.{with_table_streams}
use Rattle.msi_transform.proofs.records_by_table.RecordsByTable.put_into.Given as goal

-- the records that are left, put too, give the whole
abbrev pub invariant-loop-name : goal.invariant-loop-name
invariant-loop-name l =
    with_table_streams (by_text l.name-iterator) (entries l.streams) ≡ with_table_streams (entries l.fn.self) (entries l.fn.streams)
