use Rattle.msi_query_parse.specs.Reading.{update}
use Rattle.msi_query_parse.specs.Grammar.{SpellsUpdate}
use Rattle.msi_query_parse.proofs.Agreed.{one_at_most, updates_agree}
use Rattle.msi_query_parse.proofs.laws.updates_are_read_as_spelled.Goals as goal

pub returns-clause-agrees : goal.returns-clause-agrees
returns-clause-agrees c = updates_agree

pub returns-clause-one : goal.returns-clause-one
returns-clause-one c = one_at_most update SpellsUpdate updates_agree
