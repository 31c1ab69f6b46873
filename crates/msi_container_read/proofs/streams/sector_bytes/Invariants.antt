use Rattle.std.proofs.Common.{◌≡◌, ◌*◌, min, map}
use Rattle.std.specs.List.{range_with_len}
use Rattle.msi_container_format.specs.Container.{sector_size, sector_byte}
use Rattle.msi_container_read.proofs.streams.sector_bytes.Given as goal

abbrev pub invariant-loop-sector : goal.invariant-loop-sector
invariant-loop-sector l =
    l.held.items ≡ map (sector_byte l.bytes l.sectors) (range_with_len 0 (min l.count (l.sector-index * sector_size l.bytes)))
