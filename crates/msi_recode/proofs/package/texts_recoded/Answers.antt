use Rattle.std.proofs.lemmas.Result.{err_from_is_err_and}
use Rattle.msi_recode.proofs.PackageLemmas.{texts_made, no_pool, no_data, no_summary, error_of_pool, error_of_summary}
use Rattle.msi_recode.proofs.package.texts_recoded.Goals as goal

pub returns-clause-ok : goal.returns-clause-ok
returns-clause-ok c =
    texts_made c.args.given c.args.streams.now c.string_pool_key.result c.string_data_key.result c.summary_key.result c.in_ok-pool.pool.now c.in_ok-data.data.now c.in_ok-summary.summary.now
    (record { entries = c.in_ok-recoded.recoded.entries.items; texts = c.in_ok-recoded.recoded.texts.items; summary = c.in_ok-summary-2.summary.items })
    c.string_pool_key.ensures c.string_data_key.ensures c.summary_key.ensures c.in_ok-pool.ensures.ok c.in_ok-data.ensures.ok c.in_ok-summary.ensures.ok c.in_ok-recoded.ensures.ok c.in_ok-summary-2.ensures.ok

pub returns-in_err-pool-clause-exact : goal.returns-in_err-pool-clause-exact
returns-in_err-pool-clause-exact c =
    let p = err_from_is_err_and c.from_residual.result c.from_residual.ensures.1 in
    rw (p.1, p.2) (no_pool c.in_err-pool.field-0.0 c.args.given c.args.streams.now c.string_pool_key.result c.in_err-pool.ensures.kind c.in_err-pool.ensures.missing c.string_pool_key.ensures)

pub returns-in_err-data-clause-exact : goal.returns-in_err-data-clause-exact
returns-in_err-data-clause-exact c =
    let p = err_from_is_err_and c.from_residual-in_err-data.result c.from_residual-in_err-data.ensures.1 in
    rw (p.1, p.2) (no_data c.in_err-data.field-0.0 c.args.given c.args.streams.now c.string_data_key.result c.in_err-data.ensures.kind c.in_err-data.ensures.missing c.string_data_key.ensures)

pub returns-in_err-summary-clause-exact : goal.returns-in_err-summary-clause-exact
returns-in_err-summary-clause-exact c =
    let p = err_from_is_err_and c.from_residual-in_err-summary.result c.from_residual-in_err-summary.ensures.1 in
    rw (p.1, p.2) (no_summary c.in_err-summary.field-0.0 c.args.given c.args.streams.now c.summary_key.result c.in_err-summary.ensures.kind c.in_err-summary.ensures.missing c.summary_key.ensures)

pub returns-in_err-recoded-clause-exact : goal.returns-in_err-recoded-clause-exact
returns-in_err-recoded-clause-exact c =
    let p = err_from_is_err_and c.from_residual-in_err-recoded.result c.from_residual-in_err-recoded.ensures.1 in
    rw (p.1, p.2) (error_of_pool c.args.given c.args.streams.now c.string_pool_key.result c.string_data_key.result c.summary_key.result c.in_ok-pool.pool.now c.in_ok-data.data.now c.in_ok-summary.summary.now
    c.string_pool_key.ensures c.string_data_key.ensures c.summary_key.ensures c.in_ok-pool.ensures.ok c.in_ok-data.ensures.ok c.in_ok-summary.ensures.ok c.in_err-recoded.field-0.0 c.in_err-recoded.ensures.exact)

pub returns-in_err-summary-2-clause-exact : goal.returns-in_err-summary-2-clause-exact
returns-in_err-summary-2-clause-exact c =
    let p = err_from_is_err_and c.from_residual-in_err-summary-2.result c.from_residual-in_err-summary-2.ensures.1 in
    rw (p.1, p.2) (error_of_summary c.args.given c.args.streams.now c.string_pool_key.result c.string_data_key.result c.summary_key.result c.in_ok-pool.pool.now c.in_ok-data.data.now c.in_ok-summary.summary.now
    c.string_pool_key.ensures c.string_data_key.ensures c.summary_key.ensures c.in_ok-pool.ensures.ok c.in_ok-data.ensures.ok c.in_ok-summary.ensures.ok
    c.in_err-summary-2.field-0.0 c.in_ok-recoded.recoded.entries.items c.in_ok-recoded.recoded.texts.items c.in_ok-recoded.ensures.ok c.in_err-summary-2.ensures.exact)
