use Rattle.msi_table.proofs.NeedLemmas.{named_once}
use Rattle.msi_table.proofs.laws.keys_are_named_once.Goals as goal

pub returns : goal.returns
returns c = named_once
