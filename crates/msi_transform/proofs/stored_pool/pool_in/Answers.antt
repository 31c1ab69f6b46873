use Rattle.std.proofs.Common.{◌∙◌, ap, sym, Some}
use Rattle.std.specs.FinMap.{entries}
use Rattle.msi_database_storage.specs.Streams.{stream_at}
use Rattle.msi_transform.proofs.ReadStepLemmas.{memory_passed}
use Rattle.msi_transform.proofs.StoredPoolLemmas.{no_pool_stream, pool_only, texts_stop}
use Rattle.msi_transform.proofs.stored_pool.pool_in.Goals as goal

pub returns-in_err-stream-clause-only : goal.returns-in_err-stream-clause-only
returns-in_err-stream-clause-only c = λ raw held.
    memory_passed c.from_residual.result c.in_err-stream.field-0.0 raw c.from_residual.ensures.1
    (no_pool_stream (entries c.args.streams.now) raw c.in_err-stream.ensures.only held)

pub returns-clause-only : goal.returns-clause-only
returns-clause-only c = λ raw held.
    let streams = entries c.args.streams.now in
    pool_only streams c.as_slice.result.now c.in_ok-stream.stream c.pool_of.result raw c.in_ok-stream.ensures.only
    (ap (λ name. stream_at name streams) (sym c.string_data_key.ensures) ∙ c.in_ok-bytes.ensures.ok ∙ ap Some (sym c.as_slice.ensures)) c.pool_of.ensures.only held

pub returns-clause-kind : goal.returns-clause-kind
returns-clause-kind c =
    let streams = entries c.args.streams.now in
    texts_stop streams c.pool_of.result c.as_slice.result.now c.in_ok-stream.stream c.in_ok-stream.ensures.found c.in_ok-stream.ensures.only
    (ap (λ name. stream_at name streams) (sym c.string_data_key.ensures) ∙ c.in_ok-bytes.ensures.ok ∙ ap Some (sym c.as_slice.ensures)) c.pool_of.ensures.only c.pool_of.ensures.kinds
