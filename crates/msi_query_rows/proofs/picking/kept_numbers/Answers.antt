use Rattle.msi_query.specs.Rows.{rows_values}
use Rattle.msi_query.proofs.SelectionLemmas.{all_kept}
use Rattle.msi_query_rows.proofs.picking.kept_numbers.Goals as goal

pub returns-in-None-clause-ok : goal.returns-in-None-clause-ok
returns-in-None-clause-ok c = rw (c.in-None.is) (all_kept c.args.stored.now.columns (rows_values c.args.pool.now.places c.args.stored.now.rows))
