use Rattle.std.proofs.Common.{◌≡◌, take}
use Rattle.std.specs.List.{filter_map}
use Rattle.msi_query.specs.Rows.{column_at}
use Rattle.msi_query_rows.proofs.columns.columns_of.Given as goal

abbrev pub invariant-loop-place : goal.invariant-loop-place
invariant-loop-place l = record {
  kept : l.kept.items ≡ filter_map (column_at l.columns) (take l.place-index l.places);
}
