use Rattle.msi.proofs.reading.OpeningLemmas as lemmas
use Rattle.msi.proofs.laws.bytes_open_to_one.Goals as goal

pub returns : goal.returns
returns c = lemmas.bytes_open_to_one
