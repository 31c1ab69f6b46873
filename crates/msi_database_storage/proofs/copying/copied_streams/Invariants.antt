use Rattle.std.proofs.Common.{◌≡◌, ◌++◌}
use Rattle.std.specs.FinMap.{entries}
use Rattle.msi_database_storage.proofs.copying.copied_streams.Given as goal

-- the streams so far, and those that are left
abbrev pub invariant-loop-name : goal.invariant-loop-name
invariant-loop-name l = entries l.copy ++ l.name-iterator ≡ entries l.streams
