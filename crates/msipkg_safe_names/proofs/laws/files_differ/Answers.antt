use Rattle.msipkg_safe_names.proofs.GivenLemmas as lemmas
use Rattle.msipkg_safe_names.proofs.laws.files_differ.Goals as goal

pub returns : goal.returns
returns c = lemmas.files_differ
