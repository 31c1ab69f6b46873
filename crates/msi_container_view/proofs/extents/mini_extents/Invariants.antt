use Rattle.std.proofs.Common.{◌≡◌, ℕ, List, ◌+◌, ◌-◌, ◌*◌, ◌≤◌, ◌⊎◌, length, map}
use Rattle.std.specs.List.{range_with_len}
use Rattle.msi_container_format.specs.Container.{sector_size, mini_sector_byte}
use Rattle.msi_container_view.specs.Extents.{bytes_of, size_of}
use Rattle.msi_container_view.proofs.extents.mini_extents.Given as goal

abbrev pub invariant-loop-left : goal.invariant-loop-left
invariant-loop-left l = record {
  at : l.at ≤ length l.mini_sectors;
  most : l.left ≤ l.count;
  whole : (l.left ≡ 0) ⊎ (l.at * 64 + l.left ≡ l.count);
  sized : size_of l.extents.items + l.left ≡ l.count;
  bytes : (file : List ℕ) → sector_size file ≡ l.size
      → bytes_of file l.extents.items
      ≡ map (mini_sector_byte file l.mini_stream l.mini_sectors) (range_with_len 0 (l.count - l.left));
}

abbrev pub decreases-loop-left : goal.decreases-loop-left
decreases-loop-left l = l.left
