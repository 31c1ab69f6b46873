use Rattle.msi.proofs.calls_in_turn.LawLemmas as lemmas
use Rattle.msi.proofs.laws.removes_signature.Goals as goal

pub returns : goal.returns
returns c = lemmas.removes_signature
