use Rattle.msi.proofs.writing.WritableLemmas as lemmas
use Rattle.msi.proofs.laws.utf8_texts_are_writable.Goals as goal

pub returns : goal.returns
returns c = lemmas.utf8_texts_are_writable
