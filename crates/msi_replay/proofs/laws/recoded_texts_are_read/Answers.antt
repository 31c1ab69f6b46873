use Rattle.msi_replay.proofs.PackageLemmas as lemmas
use Rattle.msi_replay.proofs.laws.recoded_texts_are_read.Goals as goal

pub returns : goal.returns
returns c = lemmas.recoded_texts_are_read
