use Rattle.msipkg_safe_names.proofs.SpellingLemmas as lemmas
use Rattle.msipkg_safe_names.proofs.laws.spellings_differ.Goals as goal

pub returns : goal.returns
returns c = lemmas.spellings_differ
