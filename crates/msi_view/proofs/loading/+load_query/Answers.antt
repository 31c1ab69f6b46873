use Rattle.std.proofs.Common.{◌≡◌, ℕ, List, ◌++◌, map, refl}
use Rattle.std.specs.FinMap.{entries}
use Rattle.msi_database_schema.specs.Keys.{table_key as key_of}
use Rattle.msi_database_storage.specs.Streams.{Streams}
use Rattle.msi_query.specs.QueryTrees.{query_of}
use Rattle.msi_view.specs.Looking.{AreStreamsOf, IsLoaded, tables_read}
use Rattle.msi_view.proofs.loading_lemmas.CountedLemmas.{reads_joined}
use Rattle.msi_view.proofs.loading_lemmas.LoadedLemmas.{joined_loaded, root_on, sides_loaded}
use Rattle.msi_view.proofs.loading.+load_query.Goals as goal

pub returns-in_ok-load_query-in-Join-clause-reads : goal.returns-in_ok-load_query-in-Join-clause-reads
returns-in_ok-load_query-in-Join-clause-reads g t c =
    let ts : List (List ℕ) = tables_read (query_of c.deref.result.now) in
    let us : List (List ℕ) = tables_read (query_of c.deref-in-Join.result.now) in
    let are : tables_read (query_of c.args.tree.now) ≡ ts ++ us = rw (c.in-Join.is, c.deref.ensures, c.deref-in-Join.ensures) refl in
    reads_joined key_of c.args.container.now c.load_query.new.container c.load_query-in-Join.new.container (tables_read (query_of c.args.tree.now)) ts us are
    c.load_query.ensures.reads c.load_query-in-Join.ensures.reads

pub returns-in_ok-load_query-in-Join-clause-streams : goal.returns-in_ok-load_query-in-Join-clause-streams
returns-in_ok-load_query-in-Join-clause-streams g t c = λ file told are.
    let before : Streams = entries c.load_query.new.streams in
    let after : Streams = entries c.load_query-in-Join.new.streams in
    root_on c.args.container.now c.load_query.new.container c.load_query.ensures.reads.told c.load_query.ensures.reads.streams
    (λ root. AreStreamsOf root before → AreStreamsOf root after) c.load_query-in-Join.ensures.streams file told (c.load_query.ensures.streams file told are)

pub returns-in_ok-load_query-in-Join-clause-loaded : goal.returns-in_ok-load_query-in-Join-clause-loaded
returns-in_ok-load_query-in-Join-clause-loaded g t c =
    let ts : List (List ℕ) = tables_read (query_of c.deref.result.now) in
    let us : List (List ℕ) = tables_read (query_of c.deref-in-Join.result.now) in
    let are : tables_read (query_of c.args.tree.now) ≡ ts ++ us = rw (c.in-Join.is, c.deref.ensures, c.deref-in-Join.ensures) refl in
    joined_loaded key_of c.args.container.now c.load_query.new.container (entries c.args.streams.now) (entries c.load_query.new.streams) (entries c.load_query-in-Join.new.streams)
    (tables_read (query_of c.args.tree.now)) ts us c.load_query-in-Join.result c.load_query.ensures.reads.told c.load_query.ensures.reads.streams are
    c.load_query.ensures.streams c.in_ok-load_query-in-Join.ensures.loaded c.load_query-in-Join.ensures.loaded c.load_query-in-Join.ensures.others

pub returns-in_ok-load_query-in-Join-clause-others : goal.returns-in_ok-load_query-in-Join-clause-others
returns-in_ok-load_query-in-Join-clause-others g t c = λ file told other is.
    let before : Streams = entries c.load_query.new.streams in
    let after : Streams = entries c.load_query-in-Join.new.streams in
    root_on c.args.container.now c.load_query.new.container c.load_query.ensures.reads.told c.load_query.ensures.reads.streams
    (λ root. IsLoaded root before other → IsLoaded root after other) (λ file told. c.load_query-in-Join.ensures.others file told other) file told
    (c.load_query.ensures.others file told other is)

pub returns-in-Product-clause-loaded : goal.returns-in-Product-clause-loaded
returns-in-Product-clause-loaded g t c =
    let are : tables_read (query_of c.args.tree.now) ≡ map (λ side. side.table) c.as_slice.result.now = rw (c.in-Product.is, c.as_slice.ensures) refl in
    sides_loaded c.load_sides.result key_of (λ side. side.table) c.args.container.now (entries c.args.streams.now) (entries c.load_sides.new.streams) (tables_read (query_of c.args.tree.now))
    c.as_slice.result.now are c.load_sides.ensures.loaded
