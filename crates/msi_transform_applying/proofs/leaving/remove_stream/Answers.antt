use Rattle.msi_transform_applying.proofs.LeavingLemmas.{stream_removed}
use Rattle.msi_transform_applying.proofs.leaving.remove_stream.Goals as goal

pub returns : goal.returns
returns c = stream_removed c.args.streams.now _ c.args.name.now c.remove.ensures.gone
