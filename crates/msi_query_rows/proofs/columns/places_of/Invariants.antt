use Rattle.std.proofs.Common.{◌≡◌, map, take}
use Rattle.msi_table_values.specs.Columns.{column_index}
use Rattle.msi_query_rows.proofs.columns.places_of.Given as goal

abbrev pub invariant-loop-name : goal.invariant-loop-name
invariant-loop-name l = record {
  places : l.places.items ≡ map (λ name. column_index name l.columns) (take l.name-index l.names);
}
