use Rattle.msi_query_parse.specs.Reading.{delete}
use Rattle.msi_query_parse.specs.Grammar.{SpellsDelete}
use Rattle.msi_query_parse.proofs.Agreed.{one_at_most, deletes_agree}
use Rattle.msi_query_parse.proofs.laws.deletes_are_read_as_spelled.Goals as goal

pub returns-clause-agrees : goal.returns-clause-agrees
returns-clause-agrees c = deletes_agree

pub returns-clause-one : goal.returns-clause-one
returns-clause-one c = one_at_most delete SpellsDelete deletes_agree
