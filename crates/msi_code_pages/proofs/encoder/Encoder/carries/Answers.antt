use Rattle.std.proofs.Common.{chars}
use Rattle.msi_code_pages.proofs.SpellingLemmas.{carried}
use Rattle.msi_code_pages.proofs.encoder.Encoder.carries.Goals as goal

pub returns : goal.returns
returns c = carried c.args.self.now (chars c.args.text.now) c.has_all.result c.has_all.ensures
