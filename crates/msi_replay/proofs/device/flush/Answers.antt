use Rattle.msi_replay.proofs.DeviceLemmas.{flushed_step, flushed_tells}
use Rattle.msi_replay.proofs.device.flush.Goals as goal

pub returns-clause-step : goal.returns-clause-step
returns-clause-step c = flushed_step c.args.target.now c.flush.new.self c.flush.result c.requires c.flush.ensures.step _ c.done.ensures

pub returns-clause-tells : goal.returns-clause-tells
returns-clause-tells c = flushed_tells c.args.target.now c.flush.new.self c.flush.result c.requires c.flush.ensures.step
