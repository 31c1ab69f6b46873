use Rattle.std.proofs.Common.{◌≡◌, ◌*◌, min, map}
use Rattle.std.specs.List.{range_with_len}
use Rattle.msi_container_format.specs.Container.{mini_sector_byte}
use Rattle.msi_container_read.proofs.streams.mini_sector_bytes.Given as goal

abbrev pub invariant-loop-mini_sector : goal.invariant-loop-mini_sector
invariant-loop-mini_sector l =
    l.held.items ≡ map (mini_sector_byte l.bytes l.mini_stream l.mini_sectors) (range_with_len 0 (min l.count (l.mini_sector-index * 64)))
