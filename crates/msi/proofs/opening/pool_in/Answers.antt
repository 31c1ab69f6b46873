use Rattle.std.proofs.Common.{◌≡◌, ◌∙◌, ap, sym, Some, [], ◌∷◌, None}
use Rattle.std.specs.FinMap.{entries}
use Rattle.msi_database_schema.specs.Keys.{string_data_name, table_key}
use Rattle.msi_database_storage.specs.Streams.{stream_at}
use Rattle.msi.specs.Meaning.{has_pool, has_texts, reads_pool, reads_texts}
use Rattle.msi.specs.Opening.{StopsAmong}
use Rattle.msi.proofs.reading.OpenStepLemmas.{memory_passed, no_pool_stream, no_pool_texts, no_texts_stops, passed_on, pool_found, pool_only, texts_stop}
use Rattle.msi.proofs.opening.pool_in.Goals as goal

pub returns-in_err-stream-clause-only : goal.returns-in_err-stream-clause-only
returns-in_err-stream-clause-only c = λ raw held.
    memory_passed c.from_residual.result c.in_err-stream.field-0.0 raw c.from_residual.ensures.1 (no_pool_stream c.args.contents.now raw c.in_err-stream.ensures.only held)

pub returns-in_err-bytes-clause-only : goal.returns-in_err-bytes-clause-only
returns-in_err-bytes-clause-only c = λ raw held.
    let streams = entries c.args.contents.now.streams in
    no_pool_texts c.args.contents.now raw (ap (λ name. stream_at name streams) (sym c.string_data_key.ensures) ∙ c.in_err-bytes.ensures.kind.0) held

pub returns-in_err-bytes-clause-kind : goal.returns-in_err-bytes-clause-kind
returns-in_err-bytes-clause-kind c =
    let streams = entries c.args.contents.now.streams in
    let none : stream_at (table_key string_data_name) streams ≡ None = ap (λ name. stream_at name streams) (sym c.string_data_key.ensures) ∙ c.in_err-bytes.ensures.kind.0 in
    passed_on (StopsAmong c.args.contents.now (has_pool ∷ reads_pool ∷ has_texts ∷ reads_texts ∷ [])) c.from_residual-in_err-bytes.result c.in_err-bytes.field-0.0 c.from_residual-in_err-bytes.ensures.1
    (no_texts_stops c.args.contents.now c.in_err-bytes.field-0.0 c.in_ok-stream.stream c.in_ok-stream.ensures.found (none, c.in_err-bytes.ensures.kind.1))

pub returns-clause-found : goal.returns-clause-found
returns-clause-found c =
    let streams = entries c.args.contents.now.streams in
    pool_found c.args.contents.now c.pool_of.result c.as_slice.result.now c.in_ok-stream.stream c.in_ok-stream.ensures.found
    (ap (λ name. stream_at name streams) (sym c.string_data_key.ensures) ∙ c.in_ok-bytes.ensures.ok ∙ ap Some (sym c.as_slice.ensures)) c.pool_of.ensures.found

pub returns-clause-only : goal.returns-clause-only
returns-clause-only c = λ raw held.
    let streams = entries c.args.contents.now.streams in
    pool_only c.args.contents.now c.as_slice.result.now c.in_ok-stream.stream c.pool_of.result raw c.in_ok-stream.ensures.only
    (ap (λ name. stream_at name streams) (sym c.string_data_key.ensures) ∙ c.in_ok-bytes.ensures.ok ∙ ap Some (sym c.as_slice.ensures)) c.pool_of.ensures.only held

pub returns-clause-kind : goal.returns-clause-kind
returns-clause-kind c =
    let streams = entries c.args.contents.now.streams in
    texts_stop c.args.contents.now c.pool_of.result c.as_slice.result.now c.in_ok-stream.stream c.in_ok-stream.ensures.found c.in_ok-stream.ensures.only
    (ap (λ name. stream_at name streams) (sym c.string_data_key.ensures) ∙ c.in_ok-bytes.ensures.ok ∙ ap Some (sym c.as_slice.ensures)) c.pool_of.ensures.only c.pool_of.ensures.kinds
