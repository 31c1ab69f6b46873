use Rattle.std.proofs.Common.{Some, None}
use Rattle.msi_transform.proofs.StoredPoolLemmas.{stream_got}
use Rattle.msi_transform.proofs.stored_pool.bytes_at.Goals as goal

pub returns-in-Some-clause-ok : goal.returns-in-Some-clause-ok
returns-in-Some-clause-ok c = stream_got c.args.streams.now c.args.name.now (Some c.in-Some.bytes.now) c.in-Some.ensures

pub returns-in-None-clause-kind : goal.returns-in-None-clause-kind
returns-in-None-clause-kind c = (stream_got c.args.streams.now c.args.name.now None c.in-None.ensures, c.new.ensures)
