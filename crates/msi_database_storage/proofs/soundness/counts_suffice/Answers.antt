use Rattle.std.proofs.Common.{◌≡◌, ◌<◌, ◌∙◌, ap, length, slice_get, arith}
use Rattle.std.specs.Prelude.{slice_index}
use Rattle.msi_pool.specs.FirstFit.{count_of}
use Rattle.msi_pool.specs.FirstFitLaws.{count_at}
use Rattle.msi_database_storage.proofs.SoundnessLemmas.{all_counts, count_lacks, count_suffices, counted_at}
use Rattle.msi_database_storage.proofs.soundness.counts_suffice.Goals as goal

pub returns-then-counts-i : goal.returns-then-counts-i
returns-then-counts-i c =
    let inside : c.loop-i.i < length c.args.pool.now.places = omega (arith, c.num_strings-i-end.ensures.many, c.loop-i-test.true) in
    let count : c.refcount.result ≡ count_of (slice_get c.args.pool.now.places c.loop-i.i) = c.refcount.ensures ∙ ap (count_at c.args.pool.now.places) c.string_ref.ensures ∙ counted_at c.args.pool.now.places c.loop-i.i in
    count_lacks c.args.pool.now.places c.args.census.now c.loop-i.i _ c.refcount.result inside (ap (λ l. slice_index l c.loop-i.i) c.counts-counts.ensures) count c.if-counts-i.true

pub loop-i-preserved : goal.loop-i-preserved
loop-i-preserved c =
    let inside : c.loop-i.i < length c.args.pool.now.places = omega (arith, c.num_strings-i-end.ensures.many, c.loop-i-test.true) in
    let count : c.refcount.result ≡ count_of (slice_get c.args.pool.now.places c.loop-i.i) = c.refcount.ensures ∙ ap (count_at c.args.pool.now.places) c.string_ref.ensures ∙ counted_at c.args.pool.now.places c.loop-i.i in
    count_suffices c.args.pool.now.places c.args.census.now c.loop-i.i _ c.refcount.result inside (ap (λ l. slice_index l c.loop-i.i) c.counts-counts.ensures) count c.refcount.type_inv c.if-counts-i.false c.loop-i.invariant

pub returns : goal.returns
returns c = all_counts c.args.pool.now.places c.args.census.now c.loop-i.i c.fits.result (omega (arith, c.loop-i-test.false, c.loop-i.auto.i-end, c.num_strings-i-end.ensures.many)) c.fits.ensures c.loop-i.invariant
