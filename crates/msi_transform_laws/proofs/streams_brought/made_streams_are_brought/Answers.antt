use Rattle.msi_transform_laws.proofs.BroughtStreamsLemmas.{made_streams_are_brought}
use Rattle.msi_transform_laws.proofs.streams_brought.made_streams_are_brought.Goals as goal

pub returns : goal.returns
returns c = made_streams_are_brought
