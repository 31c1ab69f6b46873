use Rattle.std.proofs.Common.{◌∙◌, sym}
use Rattle.msi_transform.specs.TransformFiles.{ReadStopsAmong, pool_read_steps}
use Rattle.msi_transform.proofs.ReadStepLemmas.{passed_on}
use Rattle.msi_transform.proofs.TransformFileLemmas.{pool_stops, texts_stop}
use Rattle.msi_transform.proofs.transform.kept_pool_in.Goals as goal

pub returns-in_err-pool-clause-kind : goal.returns-in_err-pool-clause-kind
returns-in_err-pool-clause-kind c =
    passed_on (ReadStopsAmong c.args.contents.now pool_read_steps) c.from_residual.result c.in_err-pool.field-0.0 c.from_residual.ensures.1
    (pool_stops c.args.contents.now c.in_err-pool.field-0.0 c.in_err-pool.ensures.kind)

pub returns-then-not-keeps_texts-clause-kind : goal.returns-then-not-keeps_texts-clause-kind
returns-then-not-keeps_texts-clause-kind c =
    texts_stop c.args.contents.now c.new.result c.in_ok-pool.pool c.in_ok-pool.ensures.found (λ other held. c.in_ok-pool.ensures.only other held)
    (sym c.keeps_texts.ensures ∙ c.if-not-keeps_texts.true) c.new.ensures
