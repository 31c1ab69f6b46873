use Rattle.msi_transform_laws.proofs.RowsBegunLemmas.{old_rows_are_in_hand}
use Rattle.msi_transform_laws.proofs.rows_begun.old_rows_are_in_hand.Goals as goal

pub returns : goal.returns
returns c = old_rows_are_in_hand
