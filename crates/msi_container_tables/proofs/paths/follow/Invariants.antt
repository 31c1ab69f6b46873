use Rattle.std.proofs.Common.{ℕ, ◌<◌, drop, Option}
use Rattle.msi_container_format.specs.Container.{entry_count}
use Rattle.msi_container_tables.specs.Paths.{Leads}
use Rattle.msi_container_tables.proofs.paths.follow.Given as goal

abbrev pub invariant-loop-name : goal.invariant-loop-name
invariant-loop-name l =
    let bytes = l.directory.bytes.now in
    let sectors = l.directory.sectors.now in
    record {
      below : l.storage < entry_count bytes sectors;
      whole : (found : Option ℕ) → Leads bytes sectors (drop l.name-index l.path) l.storage found → Leads bytes sectors l.path 0 found;
      only : (found : Option ℕ) → Leads bytes sectors l.path 0 found → Leads bytes sectors (drop l.name-index l.path) l.storage found;
    }
