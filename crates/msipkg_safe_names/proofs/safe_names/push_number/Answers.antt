use Rattle.std.proofs.Common.{◌/◌, arith, ap, ◌∙◌, string_bytes}
use Rattle.msipkg_safe_names.proofs.SafeNamesLemmas.{digit_last, digit_more, digit_none, no_digit, on_ok}
use Rattle.msipkg_safe_names.proofs.safe_names.push_number.Goals as goal
use Rattle.msipkg_safe_names.proofs.safe_names.push_number.Goals.{then-digits-gt0+in_ok-push_digit, else-digits-gt0}

pub loop-place-init : goal.loop-place-init
loop-place-init c = no_digit (c.args.number / 4294967296) (string_bytes c.args.safe.now) (omega arith)

pub loop-place-preserved : goal.loop-place-preserved
loop-place-preserved c =
    let number = c.args.number in
    let place = c.loop-place.place in
    let old = string_bytes c.args.safe.now in
    let safe = string_bytes c.loop-place.safe in
    elim c.if-digits-gt0.branch [
      | then-digits-gt0+in_ok-push_digit w ↦ digit_more number place old safe (string_bytes c.if-digits-gt0.safe) c.loop-place-test.true w.if-digits-gt0.true c.loop-place.invariant (ap string_bytes w.safe-is ∙ w.in_ok-push_digit.ensures)
      | else-digits-gt0 w ↦ ap string_bytes w.safe-is ∙ digit_none number place old safe c.loop-place-test.true w.if-digits-gt0.false c.loop-place.invariant
    ]

pub returns : goal.returns
returns c = λ some.
    on_ok c.push_digit-2.result (digit_last c.args.number c.loop-place.place (string_bytes c.args.safe.now) (string_bytes c.loop-place.safe) (string_bytes c.push_digit-2.new.safe) some (omega arith) c.loop-place.invariant) c.push_digit-2.ensures
