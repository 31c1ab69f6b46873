use Rattle.std.proofs.Common.{◌≡◌, ◌+◌, ◌≤◌, ◌^◌}
use Rattle.std.specs.FinMap.{entries}
use Rattle.msi_container_write.specs.Extents.{all_units}
use Rattle.msi_container_write.specs.Layout.{mini_sectors, large_parts}
use Rattle.msi_container_write.proofs.writing.count.Given as goal

abbrev pub invariant-loop-stream : goal.invariant-loop-stream
invariant-loop-stream l = record {
  mini : l.mini_sectors + mini_sectors l.stream-iterator ≡ mini_sectors (entries l.streams);
  large : l.large_sectors + all_units 512 (large_parts l.stream-iterator) ≡ all_units 512 (large_parts (entries l.streams));
  few_mini : l.mini_sectors ≤ 2 ^ 25;
  few_large : l.large_sectors ≤ 2 ^ 22;
}
