use Rattle.std.proofs.Common.{◌≡◌}
use Rattle.msi_base.specs.Lists.{has_pair}
use Rattle.msi_table_cells.specs.KeyOrder.{same_key}
use Rattle.msi_database_changes.specs.KeySets.{HasKeys}
use Rattle.msi_database_changes.proofs.keys.distinct_keys.Given as goal

abbrev pub invariant-loop-key : goal.invariant-loop-key
invariant-loop-key l = record {
  known : HasKeys l.set l.yielded;
  repeats : l.repeats ≡ has_pair same_key l.yielded;
}
