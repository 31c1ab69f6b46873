use Rattle.msi.proofs.calls_in_turn.SessionLemmas as lemmas
use Rattle.msi.proofs.laws.flush_holds_image.Goals as goal

pub returns : goal.returns
returns c = lemmas.flush_holds_image
