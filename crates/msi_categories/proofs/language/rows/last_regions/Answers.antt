use Rattle.std.proofs.Common.{refl}
use Rattle.msi_categories.specs.LanguageRows.{last_regions}
use Rattle.msi_categories.proofs.language.rows.last_regions.Goals as goal

pub returns : goal.returns
unfolding last_regions
returns c = refl
