use Rattle.msi_transform_records.proofs.SpelledLemmas.{read_records_are_spelled}
use Rattle.msi_transform_records.proofs.laws.read_records_are_spelled.Goals as goal

pub returns : goal.returns
returns c = read_records_are_spelled
