use Rattle.std.proofs.Common.{◌∙◌}
use Rattle.msi_transform_rows.proofs.RowStreamsLemmas.{stream_found}
use Rattle.msi_transform_pair.proofs.reading.stream_named.Goals as goal

pub returns-in-Some : goal.returns-in-Some
returns-in-Some c = rw c.in-Some.is (c.get.ensures ∙ stream_found c.args.streams.now c.in-Some.name)
