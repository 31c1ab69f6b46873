use Rattle.msi_table.proofs.LawLemmas.{same_rows}
use Rattle.msi_table.proofs.laws.none_means_same.Goals as goal

pub returns : goal.returns
returns c = same_rows
