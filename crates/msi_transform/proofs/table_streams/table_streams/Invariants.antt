use Rattle.std.proofs.Common.{◌≡◌, ◌++◌}
use Rattle.std.specs.FinMap.{entries}
use Rattle.msi_transform.specs.TableStreams.{table_streams_among}
use Rattle.msi_transform.proofs.table_streams.table_streams.Given as goal

-- those that were found, and those that are left
abbrev pub invariant-loop-key : goal.invariant-loop-key
invariant-loop-key l = l.found.items ++ table_streams_among l.key-iterator ≡ table_streams_among (entries l.streams)
