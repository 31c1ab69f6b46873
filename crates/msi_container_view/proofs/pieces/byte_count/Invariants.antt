use Rattle.std.proofs.Common.{◌≡◌, ◌-◌, ◌^◌, min, take}
use Rattle.msi_container_view.specs.Extents.{size_of}
use Rattle.msi_container_view.proofs.pieces.byte_count.Given as goal

abbrev pub invariant-loop-extent : goal.invariant-loop-extent
invariant-loop-extent l = l.total ≡ min (size_of (take l.extent-index l.extents)) (2 ^ 64 - 1)
