use Rattle.std.proofs.Common.{◌≡◌, ◌-◌, ◌≤◌, List, vec_len, length}
use Rattle.msi_container_format.specs.Chains.{AreBelow}
use Rattle.msi_container_format.specs.Container.{entry_count}
use Rattle.msi_container_format.specs.Trees.{Tree}
use Rattle.msi_container_read.proofs.plans.StorageListLemmas.{IsLooked}
use Rattle.msi_container_read.proofs.storages.find_all.Given as goal

abbrev pub invariant-loop-number : goal.invariant-loop-number
invariant-loop-number l =
    let bytes = l.directory.bytes.now in
    let sectors = l.directory.sectors.now in
    let f = l.found in
    record {
      limit : vec_len l.claims.marks ≡ entry_count bytes sectors;
      below : AreBelow (entry_count bytes sectors) f.entries.items;
      within : l.number ≤ length f.entries.items;
      looked : (ts : List Tree) × IsLooked bytes sectors ts f.entries.items f.homes.items f.streams.items f.storages.items l.claims.list.items l.number;
    }

abbrev pub decreases-loop-number : goal.decreases-loop-number
decreases-loop-number l = entry_count l.directory.bytes.now l.directory.sectors.now - l.number
