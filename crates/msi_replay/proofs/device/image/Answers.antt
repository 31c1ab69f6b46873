use Rattle.msi_replay.proofs.DeviceLemmas.{image_refused, image_takes}
use Rattle.msi_replay.proofs.device.image.Goals as goal

pub returns-in-Ok : goal.returns-in-Ok
returns-in-Ok c = image_takes c.args.target.now c.args.earlier_len c.in-Ok.bytes.items c.in-Ok.ensures.ok _ c.from_vec.ensures

pub returns-in-Err : goal.returns-in-Err
returns-in-Err c = image_refused c.args.target.now c.args.earlier_len _ c.in-Err.error c.in-Err.ensures.kind c.in-Err.ensures.early _ c.kind.ensures
