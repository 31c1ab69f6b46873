use Rattle.std.proofs.Common.{◌∙◌, map, Some, ap, subst, sym}
use Rattle.std.specs.FinMap.{entries}
use Rattle.std.specs.Prelude.{All}
use Rattle.std.proofs.lemmas.Result.{on_ok_weaker}
use Rattle.msi_container_view.specs.Views.{View}
use Rattle.msi_database_schema.specs.Keys.{table_key as key_of}
use Rattle.msi_database_storage.specs.Streams.{Streams}
use Rattle.msi_query.specs.Queries.{Query}
use Rattle.msi_view.specs.Looking.{Catalogued, IsLoaded, ReadsStreams, catalog_names, root_in, tables_read}
use Rattle.msi_view.proofs.catalog_lemmas.SchemaLemmas.{looked_at, still_looked}
use Rattle.msi_view.proofs.loading_lemmas.CountedLemmas.{reads_both}
use Rattle.msi_view.proofs.loading_lemmas.LoadedLemmas.{root_on}
use Rattle.msi_view.proofs.catalog.look_for.Goals as goal

pub returns-clause-look : goal.returns-clause-look
returns-clause-look g c =
    let before : Catalogued = record { pool = c.catalog.inside.pool; tables = c.catalog.inside.tables; streams = entries c.catalog.inside.streams } in
    still_looked c.look.new.container c.load_query.new.container c.look.new.catalog before (entries c.load_query.new.streams) c.load_query.ensures.reads.told c.load_query.ensures.reads.streams
    (c.in-Some.is ∙ ap Some (sym c.catalog.view_is)) c.look.ensures.look c.load_query.ensures.streams c.load_query.ensures.others

pub returns-clause-loaded : goal.returns-clause-loaded
returns-clause-loaded g c =
    let old : View = c.args.container.now in
    let mid : View = c.look.new.container in
    let before : Catalogued = record { pool = c.catalog.inside.pool; tables = c.catalog.inside.tables; streams = entries c.catalog.inside.streams } in
    let after : Streams = entries c.load_query.new.streams in
    on_ok_weaker c.load_query.result
    (λ h. root_on old mid c.look.ensures.reads.told c.look.ensures.reads.streams
    (λ root. All (λ table. IsLoaded root after (key_of table)) (tables_read c.args.query.now))
    (λ file told.
    subst (λ (query : Query). All (λ table. IsLoaded (root_in file mid) after (key_of table)) (tables_read query)) c.select_tree.ensures
    (h file told (looked_at mid c.look.new.catalog before (c.in-Some.is ∙ ap Some (sym c.catalog.view_is)) c.look.ensures.look file told).1)))
    c.load_query.ensures.loaded

pub returns-clause-reads : goal.returns-clause-reads
returns-clause-reads g c =
    let old : View = c.args.container.now in
    let mid : View = c.look.new.container in
    let new : View = c.load_query.new.container in
    reads_both old mid new catalog_names (map key_of (tables_read c.args.query.now)) c.look.ensures.reads
    (subst (λ (query : Query). ReadsStreams mid new (map key_of (tables_read query))) c.select_tree.ensures c.load_query.ensures.reads)
