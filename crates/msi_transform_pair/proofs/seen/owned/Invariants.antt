use Rattle.std.proofs.Common.{◌≡◌, take}
use Rattle.msi_database_changes.specs.Views.{seen_row}
use Rattle.msi_transform_pair.proofs.seen.owned.Given as goal

abbrev pub invariant-loop-value : goal.invariant-loop-value
invariant-loop-value l = record { owned : l.owned.items ≡ seen_row (take l.value-index l.values) }
