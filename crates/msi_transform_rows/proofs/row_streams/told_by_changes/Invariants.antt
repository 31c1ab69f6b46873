use Rattle.std.proofs.Common.{◌≡◌, drop, map}
use Rattle.std.specs.List.{fold}
use Rattle.msi_transform_rows.specs.RowStreams.{told_beside, told_by_changes, type_in}
use Rattle.msi_transform_rows.proofs.row_streams.told_by_changes.Given as goal

abbrev pub invariant-loop-place : goal.invariant-loop-place
invariant-loop-place l = record {
  whole : fold told_beside l.told (map (λ e. (type_in l.columns e.0, e.1)) (drop l.place-index l.changes)) ≡ told_by_changes l.columns l.changes;
}
