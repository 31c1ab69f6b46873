use Rattle.msi_table.proofs.NeedLemmas.{each_needed}
use Rattle.msi_table.proofs.laws.each_is_needed.Goals as goal

pub returns : goal.returns
returns c = each_needed
