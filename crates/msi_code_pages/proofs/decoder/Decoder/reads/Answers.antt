use Rattle.std.proofs.Common.{◌∙◌, ap, sym}
use Rattle.std.specs.Prelude.{is_some}
use Rattle.msi_code_pages.proofs.ReadingLemmas.{readable}
use Rattle.msi_code_pages.proofs.decoder.Decoder.reads.Goals as goal

pub returns : goal.returns
returns c = readable c.args.self.now c.args.bytes.now c.is_none.result (sym (ap is_some c.first_unmapped.ensures) ∙ c.is_none.ensures)
