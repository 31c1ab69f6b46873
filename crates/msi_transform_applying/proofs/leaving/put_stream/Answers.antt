use Rattle.msi_transform_applying.proofs.LeavingLemmas.{stream_put}
use Rattle.msi_transform_applying.proofs.leaving.put_stream.Goals as goal

pub returns-clause-ok : goal.returns-clause-ok
returns-clause-ok c = stream_put c.args.streams.now _ c.args.name c.args.bytes c.in_ok-insert.ensures.ok
