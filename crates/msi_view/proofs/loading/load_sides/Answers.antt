use Rattle.std.proofs.Common.{◌≡◌, ◌∙◌, ℕ, List, [], ◌∷◌, ◌+◌, arith, subst}
use Rattle.std.specs.FinMap.{entries}
use Rattle.msi_container_view.specs.Reading.{Tells}
use Rattle.msi_container_view.specs.Views.{View}
use Rattle.msi_database_schema.specs.Keys.{table_key as key_of}
use Rattle.msi_database_storage.specs.Streams.{Streams}
use Rattle.msi_query.specs.Queries.{Side}
use Rattle.msi_view.specs.Looking.{AreStreamsOf, IsLoaded, ReadsStreams, root_in}
use Rattle.msi_view.proofs.loading_lemmas.CountedLemmas.{reads_next, reads_until}
use Rattle.msi_view.proofs.loading_lemmas.LoadedLemmas.{root_on, all_loaded}
use Rattle.msi_view.proofs.loading.load_sides.Goals as goal

abbrev key : Side → List ℕ
key side = key_of side.table

pub returns-in_err-load_table-clause-reads : goal.returns-in_err-load_table-clause-reads
returns-in_err-load_table-clause-reads g c =
    let called : c.as_str.result.now ≡ c.side-item.result.table = c.as_str.ensures ∙ c.table.ensures in
    let read : ReadsStreams c.loop-side.container c.load_table.new.container (key c.side-item.result ∷ []) =
    subst (λ (name : List ℕ). ReadsStreams c.loop-side.container c.load_table.new.container (key_of name ∷ [])) called c.load_table.ensures.reads in
    reads_until key c.args.sides.now c.args.container.now c.load_table.new.container (c.loop-side.side-index + 1)
    (reads_next key c.args.sides.now c.args.container.now c.loop-side.container c.load_table.new.container c.loop-side.side-index c.side-item.result
    (omega arith) c.side-item.is c.loop-side.invariant.reads read)

pub loop-side-preserved : goal.loop-side-preserved
loop-side-preserved g c =
    let old : View = c.args.container.now in
    let mid : View = c.loop-side.container in
    let before : Streams = entries c.loop-side.streams in
    let after : Streams = entries c.load_table.new.streams in
    let side : Side = c.side-item.result in
    let called : c.as_str.result.now ≡ side.table = c.as_str.ensures ∙ c.table.ensures in
    let read : ReadsStreams mid c.load_table.new.container (key side ∷ []) =
    subst (λ (name : List ℕ). ReadsStreams mid c.load_table.new.container (key_of name ∷ [])) called c.load_table.ensures.reads in
    record {
      reads = reads_next key c.args.sides.now old mid c.load_table.new.container c.loop-side.side-index side (omega arith) c.side-item.is c.loop-side.invariant.reads read;
      streams = λ file told are.
          root_on old mid c.loop-side.invariant.reads.told c.loop-side.invariant.reads.streams (λ root. AreStreamsOf root before → AreStreamsOf root after)
          (c.in_ok-load_table.ensures.streams) file told (c.loop-side.invariant.streams file told are);
      loaded = λ file told are.
          all_loaded (λ s. IsLoaded (root_in file old) before (key s)) (λ s. IsLoaded (root_in file old) after (key s)) c.args.sides.now c.loop-side.side-index side (omega arith) c.side-item.is
          (λ s is. root_on old mid c.loop-side.invariant.reads.told c.loop-side.invariant.reads.streams (λ root. IsLoaded root before (key s) → IsLoaded root after (key s)) (λ file told. c.in_ok-load_table.ensures.others file told (key s)) file told is)
          (c.loop-side.invariant.loaded file told are)
          (root_on old mid c.loop-side.invariant.reads.told c.loop-side.invariant.reads.streams (λ root. AreStreamsOf root before → IsLoaded root after (key side))
          (subst (λ (name : List ℕ). (file : List ℕ) → Tells mid.held file → AreStreamsOf (root_in file mid) before → IsLoaded (root_in file mid) after (key_of name)) called c.in_ok-load_table.ensures.loaded)
          file told (c.loop-side.invariant.streams file told are));
      others = λ file told other is.
          root_on old mid c.loop-side.invariant.reads.told c.loop-side.invariant.reads.streams (λ root. IsLoaded root before other → IsLoaded root after other) (λ file told. c.in_ok-load_table.ensures.others file told other) file told
          (c.loop-side.invariant.others file told other is);
    }

pub returns-in_err-load_table-clause-others : goal.returns-in_err-load_table-clause-others
returns-in_err-load_table-clause-others g c = λ file told other is.
    let before : Streams = entries c.loop-side.streams in
    let after : Streams = entries c.load_table.new.streams in
    root_on c.args.container.now c.loop-side.container c.loop-side.invariant.reads.told c.loop-side.invariant.reads.streams
    (λ root. IsLoaded root before other → IsLoaded root after other) (λ file told. c.load_table.ensures.others file told other) file told
    (c.loop-side.invariant.others file told other is)
