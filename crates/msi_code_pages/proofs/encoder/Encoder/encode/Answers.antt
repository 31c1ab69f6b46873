use Rattle.std.proofs.Common.{◌∙◌, Some, ap, sym, chars}
use Rattle.msi_code_pages.proofs.SpellingLemmas.{bytes_there}
use Rattle.msi_code_pages.proofs.encoder.Encoder.encode.Goals as goal

pub returns-clause-ok : goal.returns-clause-ok
returns-clause-ok c =
    bytes_there c.args.self.now (chars c.args.text.now) (sym c.carries.ensures ∙ c.if-not-carries.false)
    ∙ ap Some (sym c.in_ok-bytes_written.ensures)
