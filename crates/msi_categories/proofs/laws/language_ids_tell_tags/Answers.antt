use Rattle.msi_categories.proofs.LanguageRowsLemmas as lemmas
use Rattle.msi_categories.proofs.laws.language_ids_tell_tags.Goals as goal

pub returns : goal.returns
returns c = lemmas.language_ids_tell_tags
