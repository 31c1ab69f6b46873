use Rattle.std.proofs.Common.{take}
use Rattle.msi_transform_applying.specs.ExpectedStreams.{HasNames}
use Rattle.msi_transform_applying.proofs.agreeing.names_of.Given as goal

abbrev pub invariant-loop-stored : goal.invariant-loop-stored
invariant-loop-stored l = HasNames l.names (take l.stored-index l.said)
