use Rattle.std.proofs.Common.{◌≡◌, drop}
use Rattle.msi_query_rows.specs.Order.{values_at_cmp}
use Rattle.msi_query_rows.proofs.ordering.compare_at.Given as goal

abbrev pub invariant-loop-place : goal.invariant-loop-place
invariant-loop-place l = record {
  same : values_at_cmp l.pool.places l.places l.row l.other
      ≡ values_at_cmp l.pool.places (drop l.place-index l.places) l.row l.other;
}
