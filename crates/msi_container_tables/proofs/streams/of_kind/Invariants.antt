use Rattle.std.proofs.Common.{◌≡◌, eqb, filter, take}
use Rattle.msi_container_format.specs.Container as container
use Rattle.msi_container_tables.proofs.streams.of_kind.Given as goal

abbrev pub invariant-loop-entry : goal.invariant-loop-entry
invariant-loop-entry l = l.found.items ≡ filter (λ k. eqb (container.kind l.directory.bytes.now l.directory.sectors.now k) l.kind) (take l.entry-index l.entries)
