use Rattle.msi_query_parse.proofs.PlacesLemmas.{conditions_refuse_tokens, selects_refuse_tokens, inserts_refuse_tokens, updates_refuse_tokens, deletes_refuse_tokens, statements_refuse_tokens}
use Rattle.msi_query_parse.proofs.laws.texts_are_refused_at_tokens.Goals as goal

pub returns-clause-conditions : goal.returns-clause-conditions
returns-clause-conditions c = conditions_refuse_tokens

pub returns-clause-selects : goal.returns-clause-selects
returns-clause-selects c = selects_refuse_tokens

pub returns-clause-inserts : goal.returns-clause-inserts
returns-clause-inserts c = inserts_refuse_tokens

pub returns-clause-updates : goal.returns-clause-updates
returns-clause-updates c = updates_refuse_tokens

pub returns-clause-deletes : goal.returns-clause-deletes
returns-clause-deletes c = deletes_refuse_tokens

pub returns-clause-statements : goal.returns-clause-statements
returns-clause-statements c = statements_refuse_tokens
