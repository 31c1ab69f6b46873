use Rattle.std.proofs.Common.{◌≡◌, ◌∷◌, [], ◌++◌, string_bytes, subst, sym}
use Rattle.msi_exchange.specs.Writing.{row_line, value_field}
use Rattle.msi_exchange.proofs.PushedLemmas.{line_written, when_pushed}
use Rattle.msi_exchange.proofs.writing.push_fields.Goals as goal

pub returns-clause-ok : goal.returns-clause-ok
returns-clause-ok c =
    when_pushed c.push_str-2.result (string_bytes c.loop-value.text) (13 ∷ 10 ∷ []) (string_bytes c.push_str-2.new.self) _ c.push_str-2.ensures.bytes (λ ended.
    subst (λ row. string_bytes c.push_str-2.new.self ≡ string_bytes c.args.text.now ++ row_line row) (sym c.in-Some.ensures.cases.0)
    (line_written value_field c.in-Some.first.now c.in-Some.others.now c.loop-value.value-index (string_bytes c.args.text.now) (string_bytes c.push_value.new.text) (string_bytes c.loop-value.text) (string_bytes c.push_str-2.new.self)
    c.loop-value-test.false c.in_ok-push_value.ensures.ok c.loop-value.invariant ended))
