use Rattle.std.proofs.Common.{refl}
use Rattle.msi_categories.specs.LanguageRows.{first_regions}
use Rattle.msi_categories.proofs.language.rows.first_regions.Goals as goal

pub returns : goal.returns
unfolding first_regions
returns c = refl
