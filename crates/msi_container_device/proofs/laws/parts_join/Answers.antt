use Rattle.msi_container_device.proofs.HeldLemmas.{part_behind, part_in_front, part_none, part_whole}
use Rattle.msi_container_device.proofs.laws.parts_join.Goals as goal

pub returns : goal.returns
returns c = record { none = part_none; whole = part_whole; front = part_in_front; behind = part_behind }
