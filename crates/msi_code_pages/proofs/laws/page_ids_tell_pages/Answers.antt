use Rattle.msi_code_pages.proofs.LawsLemmas.{page_named}
use Rattle.msi_code_pages.proofs.laws.page_ids_tell_pages.Goals as goal

pub returns : goal.returns
returns c = page_named
