use Rattle.std.proofs.Common.{refl}
use Rattle.msi_categories.specs.LanguageRows.{further_regions}
use Rattle.msi_categories.proofs.language.rows.further_regions.Goals as goal

pub returns : goal.returns
unfolding further_regions
returns c = refl
