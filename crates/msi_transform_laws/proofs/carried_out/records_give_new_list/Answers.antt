use Rattle.msi_transform_laws.proofs.ListedTablesLemmas.{records_give_new_list}
use Rattle.msi_transform_laws.proofs.carried_out.records_give_new_list.Goals as goal

pub returns : goal.returns
returns c = records_give_new_list
