use Rattle.msi_query_parse.specs.Reading.{condition}
use Rattle.msi_query_parse.specs.Grammar.{SpellsExpression}
use Rattle.msi_query_parse.proofs.Agreed.{one_at_most, expressions_agree}
use Rattle.msi_query_parse.proofs.laws.expressions_are_read_as_spelled.Goals as goal

pub returns-clause-agrees : goal.returns-clause-agrees
returns-clause-agrees c = expressions_agree

pub returns-clause-one : goal.returns-clause-one
returns-clause-one c = one_at_most condition SpellsExpression expressions_agree
