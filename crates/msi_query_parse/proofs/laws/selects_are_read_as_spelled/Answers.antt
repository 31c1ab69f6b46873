use Rattle.msi_query_parse.specs.Reading.{query}
use Rattle.msi_query_parse.specs.Grammar.{SpellsSelect}
use Rattle.msi_query_parse.proofs.Agreed.{one_at_most, selects_agree}
use Rattle.msi_query_parse.proofs.laws.selects_are_read_as_spelled.Goals as goal

pub returns-clause-agrees : goal.returns-clause-agrees
returns-clause-agrees c = selects_agree

pub returns-clause-one : goal.returns-clause-one
returns-clause-one c = one_at_most (query 201) SpellsSelect selects_agree
