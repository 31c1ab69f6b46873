use Rattle.std.proofs.Common.{◌≡◌, ◌++◌, take, replicate}
use Rattle.msi_container_read.proofs.storages.Found.add.Given as goal

abbrev pub invariant-loop-entry : goal.invariant-loop-entry
invariant-loop-entry l = record {
  entries : l.self.entries.items ≡ l.fn.self.entries.items ++ take l.entry-index l.found;
  homes : l.self.homes.items ≡ l.fn.self.homes.items ++ replicate l.entry-index l.number;
  streams : l.self.streams.items ≡ l.fn.self.streams.items;
  storages : l.self.storages.items ≡ l.fn.self.storages.items;
}
