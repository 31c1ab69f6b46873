use Rattle.std.proofs.Common.{◌≡◌, ◌≤◌, ◌+◌, List, ℕ, take, length}
use Rattle.msi_container_device.specs.Held.{bytes_told}
use Rattle.msi_container_view.specs.Extents.{bytes_of, size_of}
use Rattle.msi_container_view.specs.Reading.{Tells}
use Rattle.msi_container_view.proofs.pieces.read_extents.Given as goal

abbrev pub invariant-loop-extent : goal.invariant-loop-extent
invariant-loop-extent g l = record {
  long : length l.bytes.items ≡ size_of (take l.extent-index l.extents);
  read : (file : List ℕ) → Tells l.fn.reading.held file → l.bytes.items ≡ bytes_of file (take l.extent-index l.extents);
  told : bytes_told l.reading.held ≡ bytes_told l.fn.reading.held;
  count : l.reading.bytes_read ≤ l.fn.reading.bytes_read + size_of (take l.extent-index l.extents);
}
