use Rattle.msi_categories.proofs.LanguageRowsLemmas as lemmas
use Rattle.msi_categories.proofs.laws.language_rows_ascend.Goals as goal

pub returns : goal.returns
returns c = lemmas.language_rows_ascend
