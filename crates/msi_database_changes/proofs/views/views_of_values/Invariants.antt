use Rattle.std.proofs.Common.{◌≡◌, take}
use Rattle.msi_database_changes.specs.Views.{seen_row}
use Rattle.msi_database_changes.proofs.views.views_of_values.Given as goal

abbrev pub invariant-loop-value : goal.invariant-loop-value
invariant-loop-value l = record {
  seen : seen_row l.views.items ≡ take l.value-index l.row;
}
