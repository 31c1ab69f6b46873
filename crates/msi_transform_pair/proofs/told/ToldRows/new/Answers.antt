use Rattle.std.proofs.Common.{◌∙◌, ap}
use Rattle.std.specs.FinMap.{entries, from_entries}
use Rattle.msi_transform_rows.specs.KeyOfRows.{key_cmp}
use Rattle.msi_transform_pair.specs.Pair.{ToldRows}
use Rattle.msi_transform_pair.proofs.ToldRowsLemmas.{no_entries}
use Rattle.msi_transform_pair.proofs.told.ToldRows.new.Goals as goal

pub returns : goal.returns
returns c = ap (λ (es : ToldRows). entries (from_entries {R = key_cmp} es)) c.new.ensures.empty ∙ no_entries
