use Rattle.msi_query_parse.specs.Reading.{query}
use Rattle.msi_query_parse.specs.Grammar.{SpellsSelect}
use Rattle.msi_query_parse.proofs.Agreed.{gives_spelled, gives_none, selects_agree}
use Rattle.msi_query_parse.proofs.parse.SelectParse.parse.Goals as goal

pub returns-clause-spelled : goal.returns-clause-spelled
returns-clause-spelled c = gives_spelled (query 201) SpellsSelect selects_agree _ _ c.whole_select.ensures

pub returns-clause-none : goal.returns-clause-none
returns-clause-none c = gives_none (query 201) SpellsSelect selects_agree _ _ c.whole_select.ensures
