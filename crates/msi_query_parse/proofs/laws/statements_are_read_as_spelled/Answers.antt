use Rattle.msi_query_parse.specs.Reading.{statement}
use Rattle.msi_query_parse.specs.Agreement.{SpellsStatement}
use Rattle.msi_query_parse.proofs.Agreed.{one_at_most, statements_agree}
use Rattle.msi_query_parse.proofs.laws.statements_are_read_as_spelled.Goals as goal

pub returns-clause-agrees : goal.returns-clause-agrees
returns-clause-agrees c = statements_agree

pub returns-clause-one : goal.returns-clause-one
returns-clause-one c = one_at_most statement SpellsStatement statements_agree
