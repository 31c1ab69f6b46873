use Rattle.std.proofs.Common.{◌≡◌}
use Rattle.std.specs.FinMap.{entries}
use Rattle.msi_transform_rows.specs.RowChanges.{by_key}
use Rattle.msi_transform_applying.proofs.RowsPutLemmas.{put_over}
use Rattle.msi_transform_applying.proofs.table_applying.by_keys.Given as goal

-- the rows that are left, put over those that were put, are all
abbrev pub invariant-loop-key : goal.invariant-loop-key
invariant-loop-key l = put_over l.left.items (entries l.keyed) ≡ by_key l.fn.rows.items

abbrev pub decreases-loop-key : goal.decreases-loop-key
decreases-loop-key l = l.left.len
