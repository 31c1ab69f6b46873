use Rattle.std.proofs.Common.{◌≡◌, ℕ, List, [], ◌∷◌, ◌+◌, arith, subst}
use Rattle.std.specs.FinMap.{entries}
use Rattle.msi_container_view.specs.Reading.{Tells}
use Rattle.msi_container_view.specs.Views.{View}
use Rattle.msi_database_schema.specs.Keys.{table_key as key_of}
use Rattle.msi_database_storage.specs.Streams.{Streams}
use Rattle.msi_table.specs.Tables.{TableDef}
use Rattle.msi_view.specs.Looking.{AreStreamsOf, IsLoaded, ReadsStreams, root_in}
use Rattle.msi_view.proofs.loading_lemmas.CountedLemmas.{reads_next, reads_until}
use Rattle.msi_view.proofs.loading_lemmas.LoadedLemmas.{root_on, all_loaded}
use Rattle.msi_view.proofs.loading.load_tables_of.Goals as goal

abbrev key : TableDef → List ℕ
key t = key_of t.name

pub returns-in_err-load_table-clause-reads : goal.returns-in_err-load_table-clause-reads
returns-in_err-load_table-clause-reads g c =
    let called : c.name.result.now ≡ c.table-item.result.name = c.name.ensures in
    let read : ReadsStreams c.loop-table.container c.load_table.new.container (key c.table-item.result ∷ []) =
    subst (λ (name : List ℕ). ReadsStreams c.loop-table.container c.load_table.new.container (key_of name ∷ [])) called c.load_table.ensures.reads in
    reads_until key c.args.tables.now c.args.container.now c.load_table.new.container (c.loop-table.table-index + 1)
    (reads_next key c.args.tables.now c.args.container.now c.loop-table.container c.load_table.new.container c.loop-table.table-index c.table-item.result
    (omega arith) c.table-item.is c.loop-table.invariant.reads read)

pub loop-table-preserved : goal.loop-table-preserved
loop-table-preserved g c =
    let old : View = c.args.container.now in
    let mid : View = c.loop-table.container in
    let before : Streams = entries c.loop-table.streams in
    let after : Streams = entries c.load_table.new.streams in
    let table : TableDef = c.table-item.result in
    let called : c.name.result.now ≡ table.name = c.name.ensures in
    let read : ReadsStreams mid c.load_table.new.container (key table ∷ []) =
    subst (λ (name : List ℕ). ReadsStreams mid c.load_table.new.container (key_of name ∷ [])) called c.load_table.ensures.reads in
    record {
      reads = reads_next key c.args.tables.now old mid c.load_table.new.container c.loop-table.table-index table (omega arith) c.table-item.is c.loop-table.invariant.reads read;
      streams = λ file told are.
          root_on old mid c.loop-table.invariant.reads.told c.loop-table.invariant.reads.streams (λ root. AreStreamsOf root before → AreStreamsOf root after)
          (c.in_ok-load_table.ensures.streams) file told (c.loop-table.invariant.streams file told are);
      loaded = λ file told are.
          all_loaded (λ s. IsLoaded (root_in file old) before (key s)) (λ s. IsLoaded (root_in file old) after (key s)) c.args.tables.now c.loop-table.table-index table (omega arith) c.table-item.is
          (λ s is. root_on old mid c.loop-table.invariant.reads.told c.loop-table.invariant.reads.streams (λ root. IsLoaded root before (key s) → IsLoaded root after (key s)) (λ file told. c.in_ok-load_table.ensures.others file told (key s)) file told is)
          (c.loop-table.invariant.loaded file told are)
          (root_on old mid c.loop-table.invariant.reads.told c.loop-table.invariant.reads.streams (λ root. AreStreamsOf root before → IsLoaded root after (key table))
          (subst (λ (name : List ℕ). (file : List ℕ) → Tells mid.held file → AreStreamsOf (root_in file mid) before → IsLoaded (root_in file mid) after (key_of name)) called c.in_ok-load_table.ensures.loaded)
          file told (c.loop-table.invariant.streams file told are));
      others = λ file told other is.
          root_on old mid c.loop-table.invariant.reads.told c.loop-table.invariant.reads.streams (λ root. IsLoaded root before other → IsLoaded root after other) (λ file told. c.in_ok-load_table.ensures.others file told other) file told
          (c.loop-table.invariant.others file told other is);
    }

pub returns-in_err-load_table-clause-others : goal.returns-in_err-load_table-clause-others
returns-in_err-load_table-clause-others g c = λ file told other is.
    let before : Streams = entries c.loop-table.streams in
    let after : Streams = entries c.load_table.new.streams in
    root_on c.args.container.now c.loop-table.container c.loop-table.invariant.reads.told c.loop-table.invariant.reads.streams
    (λ root. IsLoaded root before other → IsLoaded root after other) (λ file told. c.load_table.ensures.others file told other) file told
    (c.loop-table.invariant.others file told other is)
