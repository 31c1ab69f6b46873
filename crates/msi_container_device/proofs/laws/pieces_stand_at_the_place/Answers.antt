use Rattle.msi_container_device.proofs.HeldLemmas.{piece_at_place}
use Rattle.msi_container_device.proofs.laws.pieces_stand_at_the_place.Goals as goal

pub returns : goal.returns
returns c = piece_at_place
