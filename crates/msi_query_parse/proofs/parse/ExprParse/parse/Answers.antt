use Rattle.msi_query_parse.specs.Reading.{condition}
use Rattle.msi_query_parse.specs.Grammar.{SpellsExpression}
use Rattle.msi_query_parse.proofs.Agreed.{gives_spelled, gives_none, expressions_agree}
use Rattle.msi_query_parse.proofs.parse.ExprParse.parse.Goals as goal

pub returns-clause-spelled : goal.returns-clause-spelled
returns-clause-spelled c = gives_spelled condition SpellsExpression expressions_agree _ _ c.whole_expression.ensures

pub returns-clause-none : goal.returns-clause-none
returns-clause-none c = gives_none condition SpellsExpression expressions_agree _ _ c.whole_expression.ensures
