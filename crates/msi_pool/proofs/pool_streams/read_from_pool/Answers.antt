use Rattle.msi_pool.proofs.ReadFaultLemmas.{stream_of_reader}
use Rattle.msi_pool.proofs.pool_streams.read_from_pool.Goals as goal

pub returns-clause-only : goal.returns-clause-only
returns-clause-only g c = stream_of_reader (g.R.Read.remaining c.args.reader) c.in_ok-bytes.bytes.items c.pool_builder_of.result c.in_ok-bytes.ensures.ok (rw (← c.as_slice.ensures.value) c.pool_builder_of.ensures.only)
