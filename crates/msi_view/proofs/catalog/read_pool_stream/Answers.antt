use Rattle.std.proofs.Common.{◌≡◌, ◌∙◌, ℕ, List, [], ◌∷◌, Some, None, ap, sym}
use Rattle.std.specs.FinMap.{get}
use Rattle.msi_base.specs.declared.errors.ErrorKind.TheVariants.{NotFound}
use Rattle.msi_base.proofs.OptionLemmas.{none_not}
use Rattle.msi_container_view.specs.Reading.{Tells}
use Rattle.msi_container_view.specs.Views.{View, contents_in, streams_at}
use Rattle.msi_database_schema.specs.Keys.{string_pool_name, table_key}
use Rattle.msi_database_storage.specs.Streams.{stream_at}
use Rattle.msi_pool.specs.Pool.{IsPoolStream}
use Rattle.msi.specs.Meaning.{has_pool, reads_pool}
use Rattle.msi.specs.Opening.{PoolStreamIs}
use Rattle.msi.proofs.reading.OpenStepLemmas.{missing_stops, of_bytes, passed_on, pool_stream_found, pool_stream_stops}
use Rattle.msi_view.specs.Looking.{IsPartRefusal, root_in}
use Rattle.msi_view.proofs.catalog_lemmas.PartLemmas.{for_files, only_for_files, refused_or_missing, refused_unless_ok, stream_told}
use Rattle.msi_view.proofs.catalog.read_pool_stream.Goals as goal

pub returns-in_err-bytes-clause-kind : goal.returns-in_err-bytes-clause-kind
returns-in_err-bytes-clause-kind g c =
    let v : View = c.args.container.now in
    passed_on (IsPartRefusal g.S.Source.can_fail v (has_pool ∷ reads_pool ∷ [])) c.from_residual.result c.in_err-bytes.field-0.0 c.from_residual.ensures.1
    (refused_or_missing g.S.Source.can_fail v (has_pool ∷ reads_pool ∷ []) c.in_err-bytes.field-0.0
    ((c.in_err-bytes.field-0.0 ≡ NotFound) × ((file : List ℕ) → Tells v.held file → get (streams_at file v.streams) c.string_pool_key.result ≡ None))
    (λ missing file told.
    missing_stops (contents_in file v) c.in_err-bytes.field-0.0 has_pool (reads_pool ∷ [])
    (none_not (stream_at (table_key string_pool_name) (root_in file v)) (stream_told v c.string_pool_key.result (table_key string_pool_name) None c.string_pool_key.ensures missing.1 file told), missing.0))
    c.in_err-bytes.ensures.kind)

pub returns-clause-found : goal.returns-clause-found
returns-clause-found g c =
    let v : View = c.args.container.now in
    for_files v.held (λ file stream. PoolStreamIs (root_in file v) stream) c.pool_builder_of.result
    (λ file told. pool_stream_found (stream_at (table_key string_pool_name) (root_in file v)) c.pool_builder_of.result c.as_slice.result.now
    (stream_told v c.string_pool_key.result (table_key string_pool_name) (Some c.in_ok-bytes.bytes.items) c.string_pool_key.ensures c.in_ok-bytes.ensures.ok file told ∙ ap Some (sym c.as_slice.ensures.value))
    c.pool_builder_of.ensures.found)

pub returns-clause-only : goal.returns-clause-only
returns-clause-only g c =
    let v : View = c.args.container.now in
    only_for_files v.held (λ file stream. PoolStreamIs (root_in file v) stream) c.pool_builder_of.result
    (λ file told other is. c.pool_builder_of.ensures.only other
    (of_bytes (λ bytes. IsPoolStream bytes other) (stream_at (table_key string_pool_name) (root_in file v)) c.as_slice.result.now
    (stream_told v c.string_pool_key.result (table_key string_pool_name) (Some c.in_ok-bytes.bytes.items) c.string_pool_key.ensures c.in_ok-bytes.ensures.ok file told ∙ ap Some (sym c.as_slice.ensures.value))
    is))

pub returns-clause-kind : goal.returns-clause-kind
returns-clause-kind g c =
    let v : View = c.args.container.now in
    refused_unless_ok g.S.Source.can_fail v (has_pool ∷ reads_pool ∷ []) c.pool_builder_of.result
    (λ file told. pool_stream_stops (contents_in file v) c.pool_builder_of.result c.as_slice.result.now
    (stream_told v c.string_pool_key.result (table_key string_pool_name) (Some c.in_ok-bytes.bytes.items) c.string_pool_key.ensures c.in_ok-bytes.ensures.ok file told ∙ ap Some (sym c.as_slice.ensures.value))
    c.pool_builder_of.ensures.only c.pool_builder_of.ensures.kinds)
