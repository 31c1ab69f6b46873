use Rattle.msi.proofs.calls_in_turn.LawLemmas as lemmas
use Rattle.msi.proofs.laws.removes_its_stream.Goals as goal

pub returns : goal.returns
returns c = lemmas.removes_its_stream
