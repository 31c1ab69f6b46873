use Rattle.std.specs.FinMap.{entries}
use Rattle.msi_transform.proofs.TableStreamsLemmas.{IsTaken}
use Rattle.msi_transform.proofs.table_streams.take_each.Given as goal

abbrev pub invariant-loop-stream : goal.invariant-loop-stream
invariant-loop-stream l = IsTaken l.fn.found.items l.left.items (entries l.streams) (entries l.tables) (entries l.fn.streams)

abbrev pub decreases-loop-stream : goal.decreases-loop-stream
decreases-loop-stream l = l.left.len
