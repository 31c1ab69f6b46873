use Rattle.msi_query_parse.specs.Reading.{delete}
use Rattle.msi_query_parse.specs.Grammar.{SpellsDelete}
use Rattle.msi_query_parse.proofs.Agreed.{gives_spelled, gives_none, deletes_agree}
use Rattle.msi_query_parse.proofs.parse.DeleteParse.parse.Goals as goal

pub returns-clause-spelled : goal.returns-clause-spelled
returns-clause-spelled c = gives_spelled delete SpellsDelete deletes_agree _ _ c.whole_delete.ensures

pub returns-clause-none : goal.returns-clause-none
returns-clause-none c = gives_none delete SpellsDelete deletes_agree _ _ c.whole_delete.ensures
