use Rattle.std.proofs.Common.{◌≡◌, ◌∙◌, ap, sym, Some, [], ◌∷◌, None}
use Rattle.std.specs.FinMap.{entries}
use Rattle.msi_base.proofs.OptionLemmas.{none_not}
use Rattle.msi_pool.specs.Pool.{IsPoolStream}
use Rattle.msi_database_schema.specs.Keys.{string_pool_name, table_key}
use Rattle.msi_database_storage.specs.Streams.{stream_at}
use Rattle.msi.specs.Meaning.{has_pool, reads_pool}
use Rattle.msi.specs.Opening.{StopsAmong}
use Rattle.msi.proofs.reading.OpenStepLemmas.{missing_stops, no_bytes, of_bytes, passed_on, pool_stream_found, pool_stream_stops}
use Rattle.msi.proofs.opening.pool_stream_in.Goals as goal

pub returns-in_err-bytes-clause-only : goal.returns-in_err-bytes-clause-only
returns-in_err-bytes-clause-only c = λ stream is.
    let streams = entries c.args.contents.now.streams in
    let none : stream_at (table_key string_pool_name) streams ≡ None = ap (λ name. stream_at name streams) (sym c.string_pool_key.ensures) ∙ c.in_err-bytes.ensures.kind.0 in
    no_bytes (λ bytes. IsPoolStream bytes stream) (stream_at (table_key string_pool_name) streams) none is

pub returns-in_err-bytes-clause-kind : goal.returns-in_err-bytes-clause-kind
returns-in_err-bytes-clause-kind c =
    let streams = entries c.args.contents.now.streams in
    let none : stream_at (table_key string_pool_name) streams ≡ None = ap (λ name. stream_at name streams) (sym c.string_pool_key.ensures) ∙ c.in_err-bytes.ensures.kind.0 in
    passed_on (StopsAmong c.args.contents.now (has_pool ∷ reads_pool ∷ [])) c.from_residual.result c.in_err-bytes.field-0.0 c.from_residual.ensures.1
    (missing_stops c.args.contents.now c.in_err-bytes.field-0.0 has_pool (reads_pool ∷ []) (none_not (stream_at (table_key string_pool_name) streams) none, c.in_err-bytes.ensures.kind.1))

pub returns-clause-found : goal.returns-clause-found
returns-clause-found c =
    let streams = entries c.args.contents.now.streams in
    pool_stream_found (stream_at (table_key string_pool_name) streams) c.pool_builder_of.result c.as_slice.result.now
    (ap (λ name. stream_at name streams) (sym c.string_pool_key.ensures) ∙ c.in_ok-bytes.ensures.ok ∙ ap Some (sym c.as_slice.ensures)) c.pool_builder_of.ensures.found

pub returns-clause-only : goal.returns-clause-only
returns-clause-only c = λ stream is.
    let streams = entries c.args.contents.now.streams in
    c.pool_builder_of.ensures.only stream (of_bytes (λ bytes. IsPoolStream bytes stream) (stream_at (table_key string_pool_name) streams) c.as_slice.result.now
    (ap (λ name. stream_at name streams) (sym c.string_pool_key.ensures) ∙ c.in_ok-bytes.ensures.ok ∙ ap Some (sym c.as_slice.ensures)) is)

pub returns-clause-kind : goal.returns-clause-kind
returns-clause-kind c =
    let streams = entries c.args.contents.now.streams in
    pool_stream_stops c.args.contents.now c.pool_builder_of.result c.as_slice.result.now
    (ap (λ name. stream_at name streams) (sym c.string_pool_key.ensures) ∙ c.in_ok-bytes.ensures.ok ∙ ap Some (sym c.as_slice.ensures)) c.pool_builder_of.ensures.only c.pool_builder_of.ensures.kinds
