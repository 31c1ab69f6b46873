use Rattle.std.proofs.Common.{◌≡◌, ◌+◌, ◌-◌, ◌<◌, map}
use Rattle.std.specs.List.{range_with_len}
use Rattle.msi_container_read.specs.StorageLists.{listed_at}
use Rattle.msi_container_read.proofs.storages.list_found.Given as goal

abbrev pub invariant-loop-number : goal.invariant-loop-number
invariant-loop-number l =
    let f = l.found in
    let at = listed_at l.directory.bytes.now l.directory.sectors.now f.entries.items f.homes.items f.streams.items f.storages.items in
    record {
      some : 0 < l.number;
      listed : l.list.items ≡ map (λ i. at (i + 1)) (range_with_len 0 (l.number - 1));
    }
