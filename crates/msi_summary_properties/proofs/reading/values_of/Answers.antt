use Rattle.std.proofs.Common.{[], drop, ap}
use Rattle.std.proofs.lemmas.Result.{err_from_is_err_and}
use Rattle.msi_summary_properties.specs.Reading.{put_values}
use Rattle.msi_summary_properties.proofs.ValuesLoopLemmas.{puts_next, puts_again, no_value, puts_done}
use Rattle.msi_summary_properties.proofs.reading.values_of.Goals as goal

pub returns-in_err-value : goal.returns-in_err-value
returns-in_err-value c =
    let p = err_from_is_err_and c.from_residual-in_err-value.result c.from_residual-in_err-value.ensures.1 in
    let bytes = c.args.bytes.now in
    let rest = drop c.place_in-start.result bytes in
    rw (p.1, p.2) (no_value c.args.version c.args.page bytes c.args.section c.args.pairs.now c.loop-id.id-index c.loop-id.values.entries rest c.in_err-value.field-0.0 (put_values c.args.version c.args.page bytes c.args.section c.args.pairs.now []) c.loop-id-test.true (ap (λ n. drop n bytes) c.place_in-start.ensures) c.in_err-value.ensures c.loop-id.invariant)

pub returns-then-is_some : goal.returns-then-is_some
returns-then-is_some c =
    let bytes = c.args.bytes.now in
    let rest = drop c.place_in-start.result bytes in
    rw c.new.ensures (puts_again c.args.version c.args.page bytes c.args.section c.args.pairs.now c.loop-id.id-index c.loop-id.values.entries rest c.in_ok-value.value c.in_ok-before.before (put_values c.args.version c.args.page bytes c.args.section c.args.pairs.now []) c.loop-id-test.true (ap (λ n. drop n bytes) c.place_in-start.ensures) c.in_ok-value.ensures c.in_ok-before.ensures.old (rw (← c.is_some.ensures) c.if-is_some.true) c.loop-id.invariant)

pub loop-id-preserved : goal.loop-id-preserved
loop-id-preserved c =
    let bytes = c.args.bytes.now in
    let rest = drop c.place_in-start.result bytes in
    rw c.in_ok-before.ensures.entries (puts_next c.args.version c.args.page bytes c.args.section c.args.pairs.now c.loop-id.id-index c.loop-id.values.entries rest c.in_ok-value.value c.in_ok-before.before (put_values c.args.version c.args.page bytes c.args.section c.args.pairs.now []) c.loop-id-test.true (ap (λ n. drop n bytes) c.place_in-start.ensures) c.in_ok-value.ensures c.in_ok-before.ensures.old (rw (← c.is_some.ensures) c.if-is_some.false) c.loop-id.invariant)

pub returns : goal.returns
returns c = puts_done c.args.version c.args.page c.args.bytes.now c.args.section c.args.pairs.now c.loop-id.id-index c.loop-id.values.entries (put_values c.args.version c.args.page c.args.bytes.now c.args.section c.args.pairs.now []) c.loop-id-test.false c.loop-id.invariant
