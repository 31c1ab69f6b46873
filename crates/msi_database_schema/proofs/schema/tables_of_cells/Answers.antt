use Rattle.std.proofs.lemmas.Result.{err_from_is_err_and}
use Rattle.msi_database_schema.proofs.schema.tables_of_cells.Goals as goal

pub returns-in_err-refuse_faulty_cells : goal.returns-in_err-refuse_faulty_cells
returns-in_err-refuse_faulty_cells c =
    let p = err_from_is_err_and c.from_residual.result c.from_residual.ensures.1 in
    rw (p.1, p.2) (c.in_err-refuse_faulty_cells.ensures.kind c.args.pool.now.long)
