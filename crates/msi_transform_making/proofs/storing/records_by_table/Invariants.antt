use Rattle.std.proofs.Common.{◌≡◌, ◌-◌, drop, length, map}
use Rattle.std.specs.FinMap.{entries}
use Rattle.msi_transform_making.specs.Making.{by_names, table_records}
use Rattle.msi_transform_making.proofs.storing.records_by_table.Given as goal

abbrev pub invariant-loop-i : goal.invariant-loop-i
invariant-loop-i l = record { tables : entries l.by_table ≡ by_names (map (table_records l.long) (drop (length l.stored - l.i) l.stored)) }
