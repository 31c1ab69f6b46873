use Rattle.std.proofs.Common.{◌∙◌, ap, sym}
use Rattle.std.specs.Int.{w32}
use Rattle.std.proofs.lemmas.Int.{to_z_pos}
use Rattle.msi_recode.specs.TextPages.{page_for, text_page_with_signed_id}
use Rattle.msi_recode.proofs.PageLemmas.{page_alone}
use Rattle.msi_recode.proofs.page.page_for.Goals as goal

pub returns-in-None : goal.returns-in-None
returns-in-None c = c.of.ensures ∙ ap text_page_with_signed_id (to_z_pos w32 c.args.id c.requires) ∙ page_alone c.args.id ∙ ap (λ hint. page_for hint c.args.id) (sym c.in-None.is)
