use Rattle.std.proofs.Common.{◌∙◌, sym}
use Rattle.msi_code_pages.proofs.IndexLemmas.{unmapped, put}
use Rattle.msi_code_pages.proofs.encoder.enter.Goals as goal

pub returns-in-Some : goal.returns-in-Some
returns-in-Some c =
    put c.args.decoder.now c.args.number c.in-Some.character c.args.numbers.now _ c.requires (sym c.written_character.ensures ∙ c.in-Some.is) c.put_first.ensures

pub returns-in-None : goal.returns-in-None
returns-in-None c = unmapped c.args.decoder.now c.args.number c.args.numbers.now c.requires (sym c.written_character.ensures ∙ c.in-None.is)
