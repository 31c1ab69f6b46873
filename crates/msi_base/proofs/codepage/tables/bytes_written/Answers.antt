use Rattle.std.proofs.Common.{[], ◌∷◌, ◌++◌, ap, ◌∙◌, map, sym}
use Rattle.std.proofs.lemmas.Iterator.{YieldsList-from_chars}
use Rattle.std.proofs.lemmas.Iterator.Consumers.{YieldsList-end}
use Rattle.std.proofs.lemmas.List.{map-append, map-id}
use Rattle.msi_base.specs.PageTables.{byte_written}
use Rattle.msi_base.proofs.codepage.tables.bytes_written.Goals as goal

pub loop-character-preserved : goal.loop-character-preserved
loop-character-preserved c =
    let written = byte_written c.args.upper.now in
    let next = c.in-Some.character in
    c.in_ok-push.ensures.items
    ∙ ap (λ byte. c.loop-character.bytes.items ++ byte ∷ []) c.byte_written.ensures
    ∙ ap (λ front. front ++ written next ∷ []) c.loop-character.invariant
    ∙ sym (map-append written c.loop-character.yielded (next ∷ []))

pub returns : goal.returns
returns c =
    let all = YieldsList-end (YieldsList-from_chars c.args.text.now c.utf8.text cc) c.loop-character.yielded _ c.loop-character.yielded_by _ _ c.in-None.is c.next.ensures.steps in
    c.loop-character.invariant ∙ ap (map (byte_written c.args.upper.now)) (sym (map-id c.loop-character.yielded) ∙ all.0)
