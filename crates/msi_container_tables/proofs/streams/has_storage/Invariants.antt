use Rattle.std.proofs.Common.{◌≡◌, false, take}
use Rattle.msi_container_format.specs.Container as container
use Rattle.msi_container_tables.proofs.streams.has_storage.Given as goal

abbrev pub invariant-loop-entry : goal.invariant-loop-entry
invariant-loop-entry l = container.has_storage l.directory.bytes.now l.directory.sectors.now (take l.entry-index l.entries) ≡ false
