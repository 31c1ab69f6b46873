use Rattle.std.proofs.Common.{◌∙◌, ◌++◌, ap, sym}
use Rattle.std.proofs.lemmas.Iterator.{YieldsList-from_chars}
use Rattle.std.proofs.lemmas.Iterator.Consumers.{YieldsList-end}
use Rattle.std.proofs.lemmas.List.{map-id}
use Rattle.msi_code_pages.specs.Spelling.{bytes_written, sequence_of}
use Rattle.msi_code_pages.proofs.SpellingLemmas.{written_more}
use Rattle.msi_code_pages.proofs.encoder.Encoder.bytes_written.Goals as goal

pub loop-character-preserved : goal.loop-character-preserved
loop-character-preserved c =
    let page = c.args.self.now in
    let before = bytes_written page c.loop-character.yielded in
    c.in_ok-push_sequence.ensures
    ∙ ap (λ front. front ++ sequence_of c.number_written.result) c.loop-character.invariant
    ∙ ap (λ n. before ++ sequence_of n) c.number_written.ensures
    ∙ sym (written_more page c.loop-character.yielded c.in-Some.character)

pub returns : goal.returns
returns c =
    let all = YieldsList-end (YieldsList-from_chars c.args.text.now c.utf8.text cc) c.loop-character.yielded _ c.loop-character.yielded_by _ _ c.in-None.is c.next.ensures.steps in
    c.loop-character.invariant ∙ ap (bytes_written c.args.self.now) (sym (map-id c.loop-character.yielded) ∙ all.0)
