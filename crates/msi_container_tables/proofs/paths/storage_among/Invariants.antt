use Rattle.std.proofs.Common.{◌≡◌, drop}
use Rattle.msi_container_tables.specs.Paths.{storage_named}
use Rattle.msi_container_tables.proofs.paths.storage_among.Given as goal

abbrev pub invariant-loop-entry : goal.invariant-loop-entry
invariant-loop-entry l =
    let named = storage_named l.directory.bytes.now l.directory.sectors.now l.name in
    named (drop l.entry-index l.entries) ≡ named l.entries
