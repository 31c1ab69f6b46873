use Rattle.std.proofs.Common.{◌≡◌, map}
use Rattle.std.specs.List.{range_with_len}
use Rattle.msi_transform_schema.specs.SchemaChanges.{column_key}
use Rattle.msi_transform_schema.proofs.schema_change.SchemaChange.column_keys.Given as goal

abbrev pub invariant-loop-i : goal.invariant-loop-i
invariant-loop-i l = l.keys.items ≡ map (column_key l.name) (range_with_len 1 l.i)
