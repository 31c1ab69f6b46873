use Rattle.std.proofs.Common.{string_bytes}
use Rattle.std.proofs.lemmas.Iterator.{YieldsList-from_chars}
use Rattle.std.proofs.lemmas.Iterator.Consumers.{YieldsList-end}
use Rattle.msi_exchange.proofs.CharacterLemmas.{text_step, text_whole}
use Rattle.msi_exchange.proofs.characters.push_each_swapped.Goals as goal

pub loop-character-preserved : goal.loop-character-preserved
loop-character-preserved c =
    text_step (string_bytes c.args.text.now) (string_bytes c.loop-character.text) (string_bytes c.push.new.self) c.loop-character.yielded c.in-Some.character c.swapped.result
    c.swapped.ensures c.loop-character.invariant c.in_ok-push.ensures.bytes

pub returns-clause-ok : goal.returns-clause-ok
returns-clause-ok c =
    let all = YieldsList-end (YieldsList-from_chars c.args.plain.now c.utf8.plain cc) c.loop-character.yielded _ c.loop-character.yielded_by _ _ c.in-None.is c.next.ensures.steps in
    text_whole (string_bytes c.args.text.now) (string_bytes c.loop-character.text) c.args.plain.now c.loop-character.yielded c.utf8.plain all.0 c.loop-character.invariant
