use Rattle.std.proofs.Common.{◌≡◌, ◌∙◌, ℕ, List, subst, sym}
use Rattle.std.specs.FinMap.{entries}
use Rattle.msi_container_format.specs.Streams as maps
use Rattle.msi_container_view.specs.Reading.{Tells}
use Rattle.msi_container_view.specs.Views.{View}
use Rattle.msi_database_storage.specs.Agreement.{schema_in}
use Rattle.msi_database_storage.specs.Streams.{Streams}
use Rattle.msi_pool.specs.Pool.{Pool}
use Rattle.msi.proofs.reading.OpenStepLemmas.{passed_on}
use Rattle.msi_view.specs.Looking.{AreStreamsOf, IsPartRefusal, IsSchemaLoaded, root_in, table_steps}
use Rattle.msi_view.proofs.catalog_lemmas.SchemaLemmas.{no_streams_of, schema_loaded, schema_refused}
use Rattle.msi_view.proofs.loading_lemmas.LoadedLemmas.{root_on}
use Rattle.msi_view.proofs.catalog.read_catalog.Goals as goal

pub returns-in_err-tables-clause-kind : goal.returns-in_err-tables-clause-kind
returns-in_err-tables-clause-kind g c =
    let v : View = c.args.container.now in
    let mid : View = c.read_pool.new.container in
    let loaded : Streams = entries c.load_schema.new.streams in
    let pool : Pool = c.in_ok-pool.pool in
    let same : (file : List ℕ) → Tells v.held file → schema_in loaded pool ≡ schema_in (root_in file v) pool =
    λ file told. schema_loaded (root_in file v) loaded pool
    (root_on v mid c.read_pool.ensures.reads.told c.read_pool.ensures.reads.streams
    (λ root. AreStreamsOf root (entries c.new-streams.result) → IsSchemaLoaded root loaded)
    c.in_ok-load_schema.ensures.loaded file told
    (subst (λ (m : maps.Streams). AreStreamsOf (root_in file v) (entries m)) (sym c.new-streams.ensures) (no_streams_of (root_in file v)))) in
    passed_on (IsPartRefusal g.S.Source.can_fail v table_steps) c.from_residual-in_err-tables.result c.in_err-tables.field-0.0 c.from_residual-in_err-tables.ensures.1
    (schema_refused g.S.Source.can_fail v loaded pool c.in_err-tables.field-0.0 c.in_ok-pool.ensures.ok c.in_ok-pool.ensures.only same c.in_err-tables.ensures.kind)

pub returns-clause-ok : goal.returns-clause-ok
returns-clause-ok g c = λ file told.
    let v : View = c.args.container.now in
    let mid : View = c.read_pool.new.container in
    let loaded : Streams = entries c.load_schema.new.streams in
    let pool : Pool = c.in_ok-pool.pool in
    let none : AreStreamsOf (root_in file v) (entries c.new-streams.result) =
    subst (λ (m : maps.Streams). AreStreamsOf (root_in file v) (entries m)) (sym c.new-streams.ensures) (no_streams_of (root_in file v)) in
    let schema : IsSchemaLoaded (root_in file v) loaded =
    root_on v mid c.read_pool.ensures.reads.told c.read_pool.ensures.reads.streams
    (λ root. AreStreamsOf root (entries c.new-streams.result) → IsSchemaLoaded root loaded)
    c.in_ok-load_schema.ensures.loaded file told none in
    let same : schema_in loaded pool ≡ schema_in (root_in file v) pool = schema_loaded (root_in file v) loaded pool schema in (
      record { pools = c.in_ok-pool.ensures.ok file told; schema = sym same ∙ c.in_ok-tables.ensures.ok; long = c.in_ok-tables.ensures.long },
      root_on v mid c.read_pool.ensures.reads.told c.read_pool.ensures.reads.streams (λ root. AreStreamsOf root (entries c.new-streams.result) → AreStreamsOf root loaded)
          c.in_ok-load_schema.ensures.streams file told none,
      schema,
    )
