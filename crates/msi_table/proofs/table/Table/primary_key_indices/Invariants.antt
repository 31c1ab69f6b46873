use Rattle.std.proofs.Common.{◌≡◌, ◌++◌, drop}
use Rattle.msi_table_values.specs.Columns.{key_places, key_places_from}
use Rattle.msi_table.proofs.table.Table.primary_key_indices.Given as goal

abbrev pub invariant-loop-i : goal.invariant-loop-i
invariant-loop-i l = record {
  places : l.places.items ++ key_places_from l.i (drop l.i l.columns) ≡ key_places l.columns;
}
