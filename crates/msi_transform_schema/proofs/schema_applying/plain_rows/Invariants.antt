use Rattle.std.proofs.Common.{◌≡◌, ◌++◌, map}
use Rattle.std.specs.Vec.Iter.{into_iter_items}
use Rattle.msi_transform_schema.specs.SchemaChanges.{plain_row}
use Rattle.msi_transform_schema.proofs.schema_applying.plain_rows.Given as goal

abbrev pub invariant-loop-row : goal.invariant-loop-row
invariant-loop-row l = record {
  plain : l.plain.items ≡ map plain_row l.yielded;
  whole : into_iter_items l.initial.row-iterator ≡ l.yielded ++ into_iter_items l.row-iterator;
}
