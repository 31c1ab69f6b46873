use Rattle.std.proofs.Common.{rules}
use Rattle.std.specs.Prelude.{option_copied}
use Rattle.msi_query_rows.proofs.PickingLemmas.{is_picked, picked_selects, picked_wide}
use Rattle.msi_query_rows.proofs.picking.narrowed_rows.Goals as goal

pub rows_of_picked-requires-clause-wide : goal.rows_of_picked-requires-clause-wide
rows_of_picked-requires-clause-wide c =
    picked_wide c.args.pool.now.places c.args.clauses.now c.args.stored c.in_ok-columns.columns c.in_ok-columns.places c.in_ok-numbers.numbers c.columns.ensures.wide
    (is_picked c.args.pool.now.places c.args.clauses.now c.args.stored c.in_ok-columns.columns c.in_ok-columns.places c.in_ok-numbers.numbers
    c.columns.result.now c.columns-2.result.now c.refuse_unknown.result c.columns-3.result.now (option_copied c.condition.result)
    c.requires c.columns.ensures.columns c.refuse_unknown.ensures c.in_ok-refuse_unknown.was c.columns-2.ensures.columns c.columns-3.ensures
    c.in_ok-columns.ensures.places c.in_ok-columns.ensures.columns (search rules) c.in_ok-numbers.ensures.ok)

pub returns-clause-ok : goal.returns-clause-ok
returns-clause-ok c =
    picked_selects c.args.pool.now.places c.args.clauses.now c.args.stored c.in_ok-columns.columns c.in_ok-columns.places c.in_ok-numbers.numbers c.rows_of_picked.result
    (is_picked c.args.pool.now.places c.args.clauses.now c.args.stored c.in_ok-columns.columns c.in_ok-columns.places c.in_ok-numbers.numbers
    c.columns.result.now c.columns-2.result.now c.refuse_unknown.result c.columns-3.result.now (option_copied c.condition.result)
    c.requires c.columns.ensures.columns c.refuse_unknown.ensures c.in_ok-refuse_unknown.was c.columns-2.ensures.columns c.columns-3.ensures
    c.in_ok-columns.ensures.places c.in_ok-columns.ensures.columns (search rules) c.in_ok-numbers.ensures.ok)
    c.rows_of_picked.ensures.ok
