use Rattle.std.proofs.Common.{◌∙◌, ℕ, List, ap, option_copied}
use Rattle.std.specs.FinMap.{entries}
use Rattle.std.specs.Prelude.{Option}
use Rattle.msi_transform_applying.specs.Applying.{same_stream}
use Rattle.msi_transform_applying.specs.ExpectedStreams.{Expected, is_met}
use Rattle.msi_transform_rows.proofs.RowStreamsLemmas.{stream_found}
use Rattle.msi_transform_applying.proofs.agreeing.ExpectedStream.is_met.Goals as goal

pub returns : goal.returns
returns c = c.is_same_stream.ensures
    ∙ ap (λ (o : Option (List ℕ)). same_stream o (option_copied c.self.inside.bytes)) (c.get.ensures ∙ stream_found c.args.streams.now c.self.inside.name)
    ∙ ap (λ (e : Expected). is_met (entries c.args.streams.now) e) c.self.view_is
