use Rattle.msi_transform.specs.TransformFiles.{ReadStopsAmong, read_steps}
use Rattle.msi_transform.proofs.ReadStepLemmas.{passed_on}
use Rattle.msi_transform.proofs.TransformFileLemmas.{later_stops}
use Rattle.msi_transform.proofs.transform.Transform.of_contents.Goals as goal

pub returns-in_err-pool-clause-kind : goal.returns-in_err-pool-clause-kind
returns-in_err-pool-clause-kind c =
    passed_on (ReadStopsAmong c.args.contents read_steps) c.from_residual-in_err-pool.result c.in_err-pool.field-0.0 c.from_residual-in_err-pool.ensures.1
    (later_stops c.args.contents c.in_err-pool.field-0.0 c.in_ok-check_clsid.ensures.ok c.in_err-pool.ensures.kind)
