use Rattle.std.proofs.Common.{◌∙◌, ap}
use Rattle.msi_database_storage.specs.Streams.{stream_at}
use Rattle.msi_transform_rows.proofs.RowStreamsLemmas.{stream_found}
use Rattle.msi_transform_applying.proofs.agreeing.held_stream.Goals as goal

pub returns : goal.returns
returns c = c.get.ensures ∙ stream_found c.streams.result.now c.args.name.now ∙ ap (stream_at c.args.name.now) c.streams.ensures.value
