use Rattle.std.proofs.Common.{◌∙◌, Some, ap, sym}
use Rattle.msi_code_pages.proofs.ReadingLemmas.{text_there}
use Rattle.msi_code_pages.proofs.decoder.Decoder.decode.Goals as goal

pub returns-clause-ok : goal.returns-clause-ok
returns-clause-ok c =
    text_there c.args.self.now c.args.bytes.now (sym c.reads.ensures ∙ c.if-not-reads.false)
    ∙ ap Some (sym c.in_ok-text_read.ensures)
