use Rattle.std.proofs.Common.{◌∙◌, ap}
use Rattle.std.specs.FinMap.{entries, from_entries}
use Rattle.msi_transform_rows.specs.KeyOfRows.{key_cmp}
use Rattle.msi_transform_rows.specs.RowChanges.{Rows}
use Rattle.msi_transform_rows.proofs.KeyedRowsLemmas.{no_entries}
use Rattle.msi_transform_rows.proofs.keyed.KeyedRows.new.Goals as goal

pub returns : goal.returns
returns c = ap (λ (es : Rows). entries (from_entries {R = key_cmp} es)) c.new.ensures.empty ∙ no_entries
