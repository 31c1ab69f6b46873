use Rattle.std.proofs.Common.{◌≡◌, []}
use Rattle.msi_query.specs.Rows.{rows_values}
use Rattle.msi_query.specs.Selection.{unseen}
use Rattle.msi_query_rows.proofs.DistinctLemmas.{HasSeen, once_from}
use Rattle.msi_query_rows.proofs.distinct.distinct_rows.Given as goal

abbrev pub invariant-loop-row : goal.invariant-loop-row
invariant-loop-row l = record {
  known : HasSeen l.seen (rows_values l.pool.places l.kept.items);
  once : unseen [] (rows_values l.pool.places l.rows) ≡ once_from l.pool.places l.kept.items l.rows l.row-index;
}
