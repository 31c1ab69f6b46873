use Rattle.msi_transform_laws.proofs.CarriedOutLemmas.{differences_give_new_rows}
use Rattle.msi_transform_laws.proofs.carried_out.differences_give_new_rows.Goals as goal

pub returns : goal.returns
returns c = differences_give_new_rows
