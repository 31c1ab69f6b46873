use Rattle.std.proofs.Common.{◌≡◌, ◌++◌}
use Rattle.msi_replay.proofs.streaming.all_names.Given as goal

-- those that were given, and those that are left
abbrev pub invariant-loop-name : goal.invariant-loop-name
invariant-loop-name l = record {
  given : l.all.items ++ l.name-iterator ≡ l.fn.names;
}
