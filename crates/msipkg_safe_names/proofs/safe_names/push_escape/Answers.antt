use Rattle.std.proofs.Common.{arith, encode_utf8, string_bytes}
use Rattle.msipkg_safe_names.proofs.SafeNamesLemmas.{escaped_large, escaped_small, on_ok, when_pushed}
use Rattle.msipkg_safe_names.proofs.safe_names.push_escape.Goals as goal

pub returns-then-code-lt128 : goal.returns-then-code-lt128
returns-then-code-lt128 c =
    on_ok c.push_digit-then-code-lt128.result (λ last.
    escaped_small c.args.c c.from-code.result (string_bytes c.args.safe.now) (string_bytes c.push.new.self) (string_bytes c.push_digit.new.safe) (string_bytes c.push_digit-then-code-lt128.new.safe)
    c.from-code.ensures c.if-code-lt128.true c.in_ok-push.ensures.bytes c.in_ok-push_digit.ensures last) c.push_digit-then-code-lt128.ensures

pub returns : goal.returns
returns c =
    when_pushed c.push-3.result (string_bytes c.push_number.new.safe) (encode_utf8 125) (string_bytes c.push-3.new.self) _ c.push-3.ensures.bytes
    (escaped_large c.args.c c.from-code.result (string_bytes c.args.safe.now) (string_bytes c.push.new.self) (string_bytes c.push-2.new.self) (string_bytes c.push_number.new.safe) (string_bytes c.push-3.new.self)
    c.from-code.ensures c.if-code-lt128.false c.in_ok-push.ensures.bytes c.in_ok-push-2.ensures.bytes (c.in_ok-push_number.ensures (omega arith)))
