use Rattle.msi_transform_laws.proofs.NewTablesLemmas.{made_transforms_give_new_tables}
use Rattle.msi_transform_laws.proofs.new_tables.made_transforms_give_new_tables.Goals as goal

pub returns : goal.returns
returns c = made_transforms_give_new_tables c.taken_places_hold_their_text.ensures c.given_back_takes_one.ensures
