use Rattle.std.proofs.Common.{refl}
use Rattle.std.proofs.lemmas.List.{append-nil}
use Rattle.msi_categories.specs.LanguageRows.{language_rows}
use Rattle.msi_categories.proofs.language.rows.tables.Goals as goal

pub returns : goal.returns
unfolding language_rows
returns c = rw (append-nil, c.languages_alone.ensures, c.first_regions.ensures, c.further_regions.ensures, c.last_regions.ensures) refl
