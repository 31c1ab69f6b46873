use Rattle.std.proofs.Common.{◌∙◌, ap}
use Rattle.std.specs.Int.{w32}
use Rattle.std.proofs.lemmas.Int.{to_z_pos}
use Rattle.msi_recode.specs.TextPages.{text_page_with_signed_id}
use Rattle.msi_recode.proofs.PageLemmas.{page_named}
use Rattle.msi_recode.proofs.page.page_unless_named.Goals as goal

pub returns : goal.returns
returns c = c.of.ensures ∙ ap text_page_with_signed_id (to_z_pos w32 c.args.id c.requires) ∙ page_named c.args.page c.args.id c.if-id-eq0.false
