use Rattle.msi_transform_laws.proofs.TableRecordsLemmas.{records_give_new_table}
use Rattle.msi_transform_laws.proofs.carried_out.records_give_new_table.Goals as goal

pub returns : goal.returns
returns c = records_give_new_table
