use Rattle.std.proofs.Common.{length}
use Rattle.msi_transform_records.proofs.LeadingLemmas.{Walked}
use Rattle.msi_transform_records.proofs.reading.count_records.Given as goal

abbrev pub invariant-loop-rest : goal.invariant-loop-rest
invariant-loop-rest l = Walked l.shapes l.pool l.bytes l.count l.rest

abbrev pub decreases-loop-rest : goal.decreases-loop-rest
decreases-loop-rest l = length l.rest
