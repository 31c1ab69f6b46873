use Rattle.std.proofs.Common.{◌≤◌, ◌∷◌, [], ◌++◌, ◌∙◌, ap, length, string_bytes, subst}
use Rattle.msi_exchange.specs.Writing.{page_front, text_field}
use Rattle.msi_exchange.proofs.PushedLemmas.{keys_written, when_pushed}
use Rattle.msi_exchange.proofs.writing.push_keys.Goals as goal

pub returns : goal.returns
returns c =
    when_pushed c.push_str.result (string_bytes c.loop-key.text) (13 ∷ 10 ∷ []) (string_bytes c.push_str.new.self) _ c.push_str.ensures.bytes (λ ended.
    keys_written c.args.archive.now.head c.loop-key.key-index (string_bytes c.args.text.now) (string_bytes c.push_page.new.text) (string_bytes c.push_swapped.new.text) (string_bytes c.loop-key.text) (string_bytes c.push_str.new.self)
    (subst (λ keys. length keys ≤ c.loop-key.key-index) c.keys-key-items.ensures c.loop-key-test.false)
    (c.in_ok-push_page.ensures ∙ ap (λ page. string_bytes c.args.text.now ++ page_front page) c.page.ensures)
    (c.in_ok-push_swapped.ensures.ok ∙ ap (λ table. string_bytes c.push_page.new.text ++ text_field table) c.table.ensures)
    c.loop-key.invariant ended)
