use Rattle.std.proofs.Common.{get_or, refl, sym, ap, subst, inr, arith, ◌+◌}
use Rattle.std.specs.BTreeSet.{contains}
use Rattle.std.specs.Ordering.{nat_cmp}
use Rattle.msi_recode.specs.declared.errors.RecodeError.TheVariants as error
use Rattle.msi_recode.specs.Readers.{page_of}
use Rattle.msi_recode.specs.SummaryReading.{IsCounted, IsNotCounted}
use Rattle.msi_recode.specs.SummaryRecoding.{IsValuesError}
use Rattle.msi_recode.proofs.CountingLemmas.{counted_next, value_error, value_unread, too_long}
use Rattle.msi_recode.proofs.counting.check_values.Goals as goal

pub returns-in-Err-clause-err : goal.returns-in-Err-clause-err
returns-in-Err-clause-err c =
    let page = page_of c.args.reader.now in
    let pairs = c.args.pairs.now in
    let i = c.loop-id.id-index in
    let pair = get_or pairs i (0, 0) in
    subst (λ err. IsValuesError c.args.version page c.args.bytes.now c.args.section pairs err) (sym c.of_property.ensures) (value_error c.args.version page c.args.bytes.now c.args.section pairs i pair.0 pair.1 c.in-Err.error c.in-Err.ensures.kinds (λ invalid.
    value_unread c.args.version page c.args.bytes.now c.args.section pairs i pair.0 pair.1 c.loop-id.ids c.loop-id.size (λ i. omega (arith, c.type_inv.bytes i)) c.loop-id.invariant.0 c.loop-id.invariant.1 c.loop-id-test.true refl
    (subst (λ bytes. IsNotCounted c.args.version page bytes (contains nat_cmp c.loop-id.ids pair.0)) c.rest_from-rest.ensures (c.in-Err.ensures.refused invalid))))

pub returns-then-size-most-clause-err : goal.returns-then-size-most-clause-err
returns-then-size-most-clause-err c =
    let page = page_of c.args.reader.now in
    let pairs = c.args.pairs.now in
    let i = c.loop-id.id-index in
    let pair = get_or pairs i (0, 0) in
    let counted = counted_next c.args.version page c.args.bytes.now c.args.section pairs i pair.0 pair.1 c.loop-id.ids c.count_value.new.ids c.loop-id.size c.in-Ok.len c.loop-id.invariant.0 c.loop-id-test.true refl
    (subst (λ bytes. IsCounted c.args.version page bytes pair.0 c.in-Ok.len) c.rest_from-rest.ensures c.in-Ok.ensures.ok) c.in-Ok.ensures.new c.in-Ok.ensures.ids in
    inr (inr (
      ap error.Package c.new.ensures,
      too_long c.args.version page c.args.bytes.now c.args.section pairs (i + 1) (c.loop-id.size + (8 + c.in-Ok.len)) c.count_value.new.ids (λ i. omega (arith, c.type_inv.bytes i)) counted (let most = c.most_size-most.ensures in omega (arith, c.if-size-most.true, most)),
    ))

pub loop-id-preserved : goal.loop-id-preserved
loop-id-preserved c =
    let page = page_of c.args.reader.now in
    let pairs = c.args.pairs.now in
    let i = c.loop-id.id-index in
    let pair = get_or pairs i (0, 0) in (
      counted_next c.args.version page c.args.bytes.now c.args.section pairs i pair.0 pair.1 c.loop-id.ids c.count_value.new.ids c.loop-id.size c.in-Ok.len c.loop-id.invariant.0 c.loop-id-test.true refl
          (subst (λ bytes. IsCounted c.args.version page bytes pair.0 c.in-Ok.len) c.rest_from-rest.ensures c.in-Ok.ensures.ok) c.in-Ok.ensures.new c.in-Ok.ensures.ids,
      (let most = c.most_size-most.ensures in omega (arith, c.if-size-most.false, most)),
    )
