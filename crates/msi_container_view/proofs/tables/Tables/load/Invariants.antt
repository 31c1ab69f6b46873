use Rattle.std.proofs.Common.{◌≡◌, ◌+◌, ◌-◌, ◌*◌, ◌≤◌, length}
use Rattle.msi_container_device.specs.Held.{bytes_told}
use Rattle.msi_container_view.proofs.table_lemmas.LoadLemmas.{AreBehind}
use Rattle.msi_container_view.proofs.tables.Tables.load.Given as goal

abbrev pub invariant-loop-at : goal.invariant-loop-at
invariant-loop-at g l = record {
  within : l.at ≤ length l.sectors;
  behind : AreBehind l.fn.self.held l.size l.fn.self.copy l.self-inside.copy.items l.sectors l.at;
  told : bytes_told l.self-inside.reading.held ≡ bytes_told l.fn.self.held;
  read : l.self-inside.reading.bytes_read ≤ l.fn.self.bytes_read + l.at * l.size;
}

abbrev pub decreases-loop-at : goal.decreases-loop-at
decreases-loop-at g l = length l.sectors - l.at
