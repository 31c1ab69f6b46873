use Rattle.std.proofs.Common.{◌++◌, ◌∙◌, ap, string_bytes, sym}
use Rattle.msi_exchange.proofs.CharacterLemmas.{text_stays}
use Rattle.msi_exchange.proofs.PushedLemmas.{when_pushed}
use Rattle.msi_exchange.proofs.characters.push_swapped.Goals as goal

pub returns-else-has_moved-clause-ok : goal.returns-else-has_moved-clause-ok
returns-else-has_moved-clause-ok c =
    when_pushed c.push_str.result (string_bytes c.args.text.now) c.args.plain.now (string_bytes c.push_str.new.self) _ c.push_str.ensures.bytes (λ ended.
    ended ∙ ap (λ plain. string_bytes c.args.text.now ++ plain) (sym (text_stays c.args.plain.now (sym c.has_moved.ensures ∙ c.if-has_moved.false))))
