use Rattle.std.proofs.Common.{arith, subst, sym, ◌++◌, [], ◌∷◌}
use Rattle.std.proofs.lemmas.Option.{get_or_from_slice_get, slice_get_within}
use Rattle.msi_recode.specs.PoolReading.{IsTextsError}
use Rattle.msi_recode.specs.Readers.{page_of}
use Rattle.msi_recode.proofs.TextsLemmas.{texts_next, texts_done}
use Rattle.msi_recode.proofs.RecodedLemmas.{texts_error, written_next}
use Rattle.msi_recode.proofs.pool.RecodedPool.push_places.Goals as goal

pub returns-in-Err-clause-err : goal.returns-in-Err-clause-err
returns-in-Err-clause-err c =
    let put = c.loop-index.invariant in
    let entries = c.args.entries.now in
    let index = c.loop-index.index in
    let entry = c.entry-entry.result in
    subst (λ err. IsTextsError (page_of c.args.reader.now) c.args.bytes.now entries err) (sym c.of_place.ensures) (texts_error c.in-Err.error (page_of c.args.reader.now) entries c.args.bytes.now index put.0 c.loop-index.rest.now entry put.1
    (slice_get_within entries index entry c.entry-entry.ensures) (sym (get_or_from_slice_get entries index entry entry c.entry-entry.ensures)) c.in-Err.ensures.err)

pub loop-index-preserved : goal.loop-index-preserved
loop-index-preserved c =
    let put = c.loop-index.invariant in
    let page = page_of c.args.reader.now in
    let entries = c.args.entries.now in
    let index = c.loop-index.index in
    let entry = c.entry-entry.result in
    let next = c.in-Ok.ensures.ok in (
      put.0 ++ next.place ∷ [],
      texts_next page entries c.args.bytes.now index put.0 c.loop-index.rest.now entry next.place c.in-Ok.after.now put.1
          (slice_get_within entries index entry c.entry-entry.ensures) (sym (get_or_from_slice_get entries index entry entry c.entry-entry.ensures)) next.front next.short,
      written_next page entry c.loop-index.rest.now c.in-Ok.after.now put.0 c.args.self.now.entries.items c.args.self.now.texts.items c.loop-index.self.entries.items c.loop-index.self.texts.items c.push_place.new.self.entries.items c.push_place.new.self.texts.items put.2 next,
    )

pub returns-clause-ok : goal.returns-clause-ok
returns-clause-ok c =
    let put = c.loop-index.invariant in
    (put.0, texts_done (page_of c.args.reader.now) c.args.entries.now c.args.bytes.now c.loop-index.index put.0 c.loop-index.rest.now put.1 (omega (arith, c.loop-index-test.false, c.len-index-end.ensures)), put.2)
