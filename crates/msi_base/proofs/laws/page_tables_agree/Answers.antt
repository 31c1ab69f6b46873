use Rattle.msi_base.proofs.PageTablesLemmas.{tables_agree}
use Rattle.msi_base.proofs.laws.page_tables_agree.Goals as goal

pub returns : goal.returns
returns c = tables_agree
