use Rattle.msi_query_parse.specs.Reading.{insert}
use Rattle.msi_query_parse.specs.Grammar.{SpellsInsert}
use Rattle.msi_query_parse.proofs.Agreed.{gives_spelled, gives_none, inserts_agree}
use Rattle.msi_query_parse.proofs.parse.InsertParse.parse.Goals as goal

pub returns-clause-spelled : goal.returns-clause-spelled
returns-clause-spelled c = gives_spelled insert SpellsInsert inserts_agree _ _ c.whole_insert.ensures

pub returns-clause-none : goal.returns-clause-none
returns-clause-none c = gives_none insert SpellsInsert inserts_agree _ _ c.whole_insert.ensures
