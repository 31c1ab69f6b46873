use Rattle.std.proofs.Common.{ap}
use Rattle.msi.specs.Meaning.{open_steps}
use Rattle.msi.specs.Opening.{StopsAmong}
use Rattle.msi.proofs.reading.OpenStepLemmas.{database_stops, passed_on, pool_stops}
use Rattle.std.proofs.lemmas.Result.{err_from_is_err_and}
use Rattle.msi.proofs.opening.open_contents.Goals as goal

pub returns-in_err-pool-clause-kind : goal.returns-in_err-pool-clause-kind
returns-in_err-pool-clause-kind c =
    passed_on (StopsAmong c.args.contents open_steps) c.from_residual-in_err-pool.result c.in_err-pool.field-0.0 c.from_residual-in_err-pool.ensures.1
    (pool_stops c.args.contents c.in_ok-kind.kind c.in_ok-kind.ensures.ok c.in_ok-summary.summary c.in_ok-summary.ensures.ok c.in_err-pool.field-0.0 c.in_err-pool.ensures.kind)

pub returns-in_err-database-clause-kind : goal.returns-in_err-database-clause-kind
returns-in_err-database-clause-kind c =
    passed_on (StopsAmong c.args.contents open_steps) c.from_residual-in_err-database.result c.in_err-database.field-0.0 c.from_residual-in_err-database.ensures.1
    (database_stops c.args.contents c.in_ok-kind.kind c.in_ok-kind.ensures.ok c.in_ok-summary.summary c.in_ok-summary.ensures.ok c.in_err-database.field-0.0 c.in_ok-pool.pool
    c.in_ok-pool.ensures.found (λ other held. (c.in_ok-pool.ensures.only other held)) c.in_err-database.ensures.kind)

pub returns-in_err-kind-clause-ok : goal.returns-in_err-kind-clause-ok
returns-in_err-kind-clause-ok c = let p = err_from_is_err_and c.from_residual.result c.from_residual.ensures.1 in rw p.1 tt

pub returns-in_err-summary-clause-ok : goal.returns-in_err-summary-clause-ok
returns-in_err-summary-clause-ok c = let p = err_from_is_err_and c.from_residual-in_err-summary.result c.from_residual-in_err-summary.ensures.1 in rw p.1 tt

pub returns-in_err-pool-clause-ok : goal.returns-in_err-pool-clause-ok
returns-in_err-pool-clause-ok c = let p = err_from_is_err_and c.from_residual-in_err-pool.result c.from_residual-in_err-pool.ensures.1 in rw p.1 tt

pub returns-in_err-database-clause-ok : goal.returns-in_err-database-clause-ok
returns-in_err-database-clause-ok c = let p = err_from_is_err_and c.from_residual-in_err-database.result c.from_residual-in_err-database.ensures.1 in rw p.1 tt
