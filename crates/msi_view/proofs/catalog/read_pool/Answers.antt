use Rattle.std.proofs.Common.{◌≡◌, ◌∙◌, ℕ, List, [], ◌∷◌, Some, None, ap, sym}
use Rattle.std.specs.FinMap.{get}
use Rattle.msi_base.specs.declared.errors.ErrorKind.TheVariants.{NotFound}
use Rattle.msi_container_view.specs.Reading.{Tells}
use Rattle.msi_container_view.specs.Views.{View, contents_in, streams_at}
use Rattle.msi_database_schema.specs.Keys.{string_data_name, table_key}
use Rattle.msi_database_storage.specs.Streams.{stream_at}
use Rattle.msi.specs.Meaning.{RawPoolIs, has_pool, has_texts, reads_pool, reads_texts}
use Rattle.msi.proofs.reading.OpenStepLemmas.{no_texts_stops, passed_on, pool_found, pool_only, texts_stop}
use Rattle.msi_view.specs.Looking.{IsPartRefusal, root_in}
use Rattle.msi_view.proofs.catalog_lemmas.PartLemmas.{for_files, only_for_files, refused_or_missing, refused_unless_ok, stream_told, told_on, whole_part}
use Rattle.msi_view.proofs.catalog.read_pool.Given.{Over}
use Rattle.msi_view.proofs.catalog.read_pool.Goals.{After-drop-bytes}
use Rattle.msi_view.proofs.catalog.read_pool.Goals as goal

pub returns-in_err-texts-clause-kind : goal.returns-in_err-texts-clause-kind
returns-in_err-texts-clause-kind g c =
    let v : View = c.args.container.now in
    let mid : View = c.read_pool_stream.new.container in
    let name : List ℕ = c.string_data_key.result in
    passed_on (IsPartRefusal g.S.Source.can_fail v (has_pool ∷ reads_pool ∷ has_texts ∷ reads_texts ∷ [])) c.from_residual-in_err-texts.result c.in_err-texts.field-0.0 c.from_residual-in_err-texts.ensures.1
    (refused_or_missing g.S.Source.can_fail v (has_pool ∷ reads_pool ∷ has_texts ∷ reads_texts ∷ []) c.in_err-texts.field-0.0
    ((c.in_err-texts.field-0.0 ≡ NotFound) × ((file : List ℕ) → Tells mid.held file → get (streams_at file mid.streams) name ≡ None))
    (λ missing file told.
    no_texts_stops (contents_in file v) c.in_err-texts.field-0.0 c.in_ok-stream.stream (c.in_ok-stream.ensures.found file told) (
      stream_told v name (table_key string_data_name) None c.string_data_key.ensures
          (told_on v mid c.read_pool_stream.ensures.reads.told c.read_pool_stream.ensures.reads.streams (λ streams. get streams name ≡ None) missing.1) file told,
      missing.0,
    ))
    c.in_err-texts.ensures.kind)

-- the bytes of the texts
texts_told : (g : Over) (c : After-drop-bytes g) (file : List ℕ) → Tells c.args.container.now.held file
    → stream_at (table_key string_data_name) (root_in file c.args.container.now) ≡ Some c.as_slice.result.now
texts_told g c file told =
    let v : View = c.args.container.now in
    let mid : View = c.read_pool_stream.new.container in
    let name : List ℕ = c.string_data_key.result in
    let texts : List ℕ = c.in_ok-texts.texts.items in
    stream_told v name (table_key string_data_name) (Some texts) c.string_data_key.ensures
    (told_on v mid c.read_pool_stream.ensures.reads.told c.read_pool_stream.ensures.reads.streams (λ streams. get streams name ≡ Some texts) c.in_ok-texts.ensures.ok) file told
    ∙ ap Some (sym (whole_part c.as_slice.result.now c.in_ok-new.field-0.value.items texts c.len-len.result (c.as_slice.ensures ∙ c.part_of-bytes.ensures)
    (λ i. (c.in_ok-new.ensures.ok i).items) (c.len-len.ensures ∙ c.in_ok-texts.texts.ok.0)))

pub returns-clause-ok : goal.returns-clause-ok
returns-clause-ok g c =
    let v : View = c.args.container.now in
    for_files v.held (λ file pool. RawPoolIs (root_in file v) pool) c.pool_of.result
    (λ file told. pool_found (contents_in file v) c.pool_of.result c.as_slice.result.now c.in_ok-stream.stream (c.in_ok-stream.ensures.found file told) (texts_told g c file told) c.pool_of.ensures.found)

pub returns-clause-only : goal.returns-clause-only
returns-clause-only g c =
    let v : View = c.args.container.now in
    only_for_files v.held (λ file pool. RawPoolIs (root_in file v) pool) c.pool_of.result
    (λ file told raw held. pool_only (contents_in file v) c.as_slice.result.now c.in_ok-stream.stream c.pool_of.result raw (c.in_ok-stream.ensures.only file told) (texts_told g c file told) c.pool_of.ensures.only held)

pub returns-clause-kind : goal.returns-clause-kind
returns-clause-kind g c =
    let v : View = c.args.container.now in
    refused_unless_ok g.S.Source.can_fail v (has_pool ∷ reads_pool ∷ has_texts ∷ reads_texts ∷ []) c.pool_of.result
    (λ file told. texts_stop (contents_in file v) c.pool_of.result c.as_slice.result.now c.in_ok-stream.stream (c.in_ok-stream.ensures.found file told) (c.in_ok-stream.ensures.only file told)
    (texts_told g c file told) c.pool_of.ensures.only c.pool_of.ensures.kinds)
