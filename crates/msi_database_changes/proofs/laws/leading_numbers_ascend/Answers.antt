use Rattle.msi_database_changes.proofs.row_keys.LeadingNumbersLemmas.{leading_ascend}
use Rattle.msi_database_changes.proofs.laws.leading_numbers_ascend.Goals as goal

pub returns : goal.returns
returns c = leading_ascend c.taken_places_hold_their_text.ensures c.given_back_takes_one.ensures c.leading_numbers_ascend.ensures
