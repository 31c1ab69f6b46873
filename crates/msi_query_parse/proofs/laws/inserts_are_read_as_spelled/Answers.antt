use Rattle.msi_query_parse.specs.Reading.{insert}
use Rattle.msi_query_parse.specs.Grammar.{SpellsInsert}
use Rattle.msi_query_parse.proofs.Agreed.{one_at_most, inserts_agree}
use Rattle.msi_query_parse.proofs.laws.inserts_are_read_as_spelled.Goals as goal

pub returns-clause-agrees : goal.returns-clause-agrees
returns-clause-agrees c = inserts_agree

pub returns-clause-one : goal.returns-clause-one
returns-clause-one c = one_at_most insert SpellsInsert inserts_agree
