use Rattle.std.proofs.Common.{refl}
use Rattle.msi_query.specs.Queries.{table}
use Rattle.msi_query.specs.Rows.{cells_of, relation_values}
use Rattle.msi_query_rows.proofs.MeantLemmas.{kept_fails, kept_selects, meant_same, stays_meant, table_selects}
use Rattle.msi_query_rows.proofs.RefusedLemmas.{table_fails}
use Rattle.msi_query_rows.proofs.selection.table_rows.Goals as goal

pub returns-clause-ok : goal.returns-clause-ok
returns-clause-ok g c =
    let places = c.args.pool.now.places in
    let name = c.args.name.now in
    let cells = cells_of name c.in_ok-stored.stored in
    let clauses = c.in_ok-clauses.clauses in
    table_selects places (g.T.Tables.table c.args.tables.now) name c.args.clauses.now cells c.narrowed_rows.result c.in_ok-stored.ensures.ok
    (kept_selects c.args.clauses.now clauses (relation_values places cells) c.narrowed_rows.result
    (meant_same c.args.clauses.now clauses name name c.columns.result.now cells.columns c.in_ok-clauses.ensures.ok refl c.columns.ensures.columns) (c.narrowed_rows.ensures.ok name))

pub returns-clause-kind : goal.returns-clause-kind
returns-clause-kind g c =
    let places = c.args.pool.now.places in
    let name = c.args.name.now in
    let cells = cells_of name c.in_ok-stored.stored in
    let clauses = c.in_ok-clauses.clauses in
    table_fails places (g.T.Tables.table c.args.tables.now) (table name c.args.clauses.now) name c.args.clauses.now cells c.narrowed_rows.result refl c.in_ok-stored.ensures.ok
    (kept_fails c.args.clauses.now clauses (relation_values places cells) c.narrowed_rows.result
    (meant_same c.args.clauses.now clauses name name c.columns.result.now cells.columns c.in_ok-clauses.ensures.ok refl c.columns.ensures.columns) (c.narrowed_rows.ensures.kind name))

pub narrowed_rows-requires : goal.narrowed_rows-requires
narrowed_rows-requires g c = stays_meant c.args.clauses.now c.in_ok-clauses.clauses c.args.name.now c.columns.result.now c.in_ok-clauses.ensures.ok c.requires
