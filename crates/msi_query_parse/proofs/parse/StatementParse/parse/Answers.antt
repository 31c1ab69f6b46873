use Rattle.msi_query_parse.specs.Reading.{statement}
use Rattle.msi_query_parse.specs.Agreement.{SpellsStatement}
use Rattle.msi_query_parse.proofs.Agreed.{gives_spelled, gives_none, statements_agree}
use Rattle.msi_query_parse.proofs.parse.StatementParse.parse.Goals as goal

pub returns-clause-spelled : goal.returns-clause-spelled
returns-clause-spelled c = gives_spelled statement SpellsStatement statements_agree _ _ c.whole_query.ensures

pub returns-clause-none : goal.returns-clause-none
returns-clause-none c = gives_none statement SpellsStatement statements_agree _ _ c.whole_query.ensures
