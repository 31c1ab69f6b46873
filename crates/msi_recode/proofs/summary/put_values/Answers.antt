use Rattle.std.proofs.Common.{get_or, refl, sym, ap, ◌∙◌, subst}
use Rattle.std.proofs.lemmas.Result.{err_from_is_err_and}
use Rattle.msi_recode.specs.Readers.{page_of}
use Rattle.msi_recode.specs.SummaryReading.{value_in, IsNotPut}
use Rattle.msi_recode.proofs.SummaryLemmas.{put_next}
use Rattle.msi_recode.proofs.SummaryOnlyLemmas.{values_fail}
use Rattle.msi_recode.proofs.summary.put_values.Goals as goal

pub loop-id-preserved : goal.loop-id-preserved
loop-id-preserved c =
    let put = c.in_ok-put_value.ensures.ok in
    let pair = get_or c.args.pairs.now c.loop-id.id-index (0, 0) in
    put_next c.args.version (page_of c.args.reader.now) c.args.bytes.now c.args.section c.args.pairs.now c.loop-id.id-index pair.0 pair.1 put.0 c.args.set.now c.loop-id.set c.put_value.new.set
    c.loop-id.invariant c.loop-id-test.true refl (ap (value_in c.args.version (page_of c.args.reader.now)) (sym c.rest_from-rest.ensures) ∙ put.1) c.in_ok-put_value.ensures.new put.2

pub returns-in_err-put_value-clause-refused : goal.returns-in_err-put_value-clause-refused
returns-in_err-put_value-clause-refused c =
    let page = page_of c.args.reader.now in
    let pair = get_or c.args.pairs.now c.loop-id.id-index (0, 0) in
    let p = err_from_is_err_and c.from_residual.result c.from_residual.ensures.1 in
    rw (p.1, p.2) (λ invalid.
    values_fail c.args.version page c.args.bytes.now c.args.section c.args.pairs.now c.loop-id.id-index pair.0 pair.1 c.args.set.now c.loop-id.set c.loop-id.invariant c.loop-id-test.true refl
    (subst (λ bytes. IsNotPut c.args.version page bytes pair.0 c.loop-id.set) c.rest_from-rest.ensures (c.in_err-put_value.ensures.refused invalid)))
