use Rattle.std.proofs.Common.{◌∙◌, List, Some, ap, subst, sym}
use Rattle.std.specs.FinMap.{entries}
use Rattle.std.proofs.lemmas.Result.{on_ok_weaker}
use Rattle.msi_container_view.specs.Views.{View}
use Rattle.msi_database_storage.specs.Streams.{Streams}
use Rattle.msi_table.specs.Tables.{TableDef}
use Rattle.msi_view.specs.Looking.{AreTablesLoaded, Catalogued, ReadsStreams, root_in, table_keys}
use Rattle.msi_view.proofs.catalog_lemmas.SchemaLemmas.{looked_at, still_looked}
use Rattle.msi_view.proofs.loading_lemmas.LoadedLemmas.{root_on}
use Rattle.msi_view.proofs.query_lemmas.TakenLemmas.{reads_after, reads_before}
use Rattle.msi_view.proofs.catalog.look_at_all.Goals as goal

pub returns-in_err-look-clause-reads : goal.returns-in_err-look-clause-reads
returns-in_err-look-clause-reads g c = reads_before c.args.container.now c.look.new.container c.look.ensures.reads

pub returns-clause-look : goal.returns-clause-look
returns-clause-look g c =
    let before : Catalogued = record { pool = c.catalog.inside.pool; tables = c.catalog.inside.tables; streams = entries c.catalog.inside.streams } in
    still_looked c.look.new.container c.load_tables_of.new.container c.look.new.catalog before (entries c.load_tables_of.new.streams) c.load_tables_of.ensures.reads.told c.load_tables_of.ensures.reads.streams
    (c.in-Some.is ∙ ap Some (sym c.catalog.view_is)) c.look.ensures.look c.load_tables_of.ensures.streams c.load_tables_of.ensures.others

pub returns-clause-loaded : goal.returns-clause-loaded
returns-clause-loaded g c =
    let old : View = c.args.container.now in
    let mid : View = c.look.new.container in
    let before : Catalogued = record { pool = c.catalog.inside.pool; tables = c.catalog.inside.tables; streams = entries c.catalog.inside.streams } in
    let after : Streams = entries c.load_tables_of.new.streams in
    on_ok_weaker c.load_tables_of.result
    (λ h. root_on old mid c.look.ensures.reads.told c.look.ensures.reads.streams
    (λ root. AreTablesLoaded root after before.tables)
    (λ file told.
    subst (λ (tables : List TableDef). AreTablesLoaded (root_in file mid) after tables) c.as_slice.ensures
    (h file told (looked_at mid c.look.new.catalog before (c.in-Some.is ∙ ap Some (sym c.catalog.view_is)) c.look.ensures.look file told).1)))
    c.load_tables_of.ensures.loaded

pub returns-clause-reads : goal.returns-clause-reads
returns-clause-reads g c =
    let mid : View = c.look.new.container in
    let new : View = c.load_tables_of.new.container in
    let before : Catalogued = record { pool = c.catalog.inside.pool; tables = c.catalog.inside.tables; streams = entries c.catalog.inside.streams } in
    reads_after c.args.container.now mid new c.look.new.catalog before (c.in-Some.is ∙ ap Some (sym c.catalog.view_is)) c.look.ensures.look c.look.ensures.reads
    (subst (λ (tables : List TableDef). ReadsStreams mid new (table_keys tables)) c.as_slice.ensures c.load_tables_of.ensures.reads)
