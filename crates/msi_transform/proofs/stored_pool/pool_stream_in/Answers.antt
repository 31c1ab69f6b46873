use Rattle.std.proofs.Common.{◌∙◌, ap, sym, Some}
use Rattle.std.specs.FinMap.{entries}
use Rattle.msi_database_storage.specs.Streams.{stream_at}
use Rattle.msi_transform.proofs.StoredPoolLemmas.{pool_stream_stops}
use Rattle.msi_transform.proofs.stored_pool.pool_stream_in.Goals as goal

pub returns-clause-kind : goal.returns-clause-kind
returns-clause-kind c =
    let streams = entries c.args.streams.now in
    pool_stream_stops streams c.pool_builder_of.result c.as_slice.result.now
    (ap (λ name. stream_at name streams) (sym c.string_pool_key.ensures) ∙ c.in_ok-bytes.ensures.ok ∙ ap Some (sym c.as_slice.ensures)) c.pool_builder_of.ensures.only c.pool_builder_of.ensures.kinds
