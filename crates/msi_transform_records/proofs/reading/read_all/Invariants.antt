use Rattle.msi_transform_records.proofs.LeadingLemmas.{Gathered}
use Rattle.msi_transform_records.proofs.reading.read_all.Given as goal

abbrev pub invariant-loop : goal.invariant-loop
invariant-loop l = Gathered l.shapes l.pool l.bytes l.records.items l.counter l.rest
