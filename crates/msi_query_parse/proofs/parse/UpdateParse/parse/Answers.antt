use Rattle.msi_query_parse.specs.Reading.{update}
use Rattle.msi_query_parse.specs.Grammar.{SpellsUpdate}
use Rattle.msi_query_parse.proofs.Agreed.{gives_spelled, gives_none, updates_agree}
use Rattle.msi_query_parse.proofs.parse.UpdateParse.parse.Goals as goal

pub returns-clause-spelled : goal.returns-clause-spelled
returns-clause-spelled c = gives_spelled update SpellsUpdate updates_agree _ _ c.whole_update.ensures

pub returns-clause-none : goal.returns-clause-none
returns-clause-none c = gives_none update SpellsUpdate updates_agree _ _ c.whole_update.ensures
