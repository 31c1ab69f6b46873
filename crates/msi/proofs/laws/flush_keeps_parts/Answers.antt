use Rattle.msi.proofs.calls_in_turn.LawLemmas as lemmas
use Rattle.msi.proofs.laws.flush_keeps_parts.Goals as goal

pub returns : goal.returns
returns c = lemmas.flush_keeps_parts
