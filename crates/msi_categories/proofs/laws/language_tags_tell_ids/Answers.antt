use Rattle.msi_categories.proofs.LanguageRowsLemmas as lemmas
use Rattle.msi_categories.proofs.laws.language_tags_tell_ids.Goals as goal

pub returns : goal.returns
returns c = lemmas.language_tags_tell_ids
