use Rattle.std.proofs.Common.{refl}
use Rattle.msi_categories.specs.LanguageRows.{languages_alone}
use Rattle.msi_categories.proofs.language.rows.languages_alone.Goals as goal

pub returns : goal.returns
unfolding languages_alone
returns c = refl
