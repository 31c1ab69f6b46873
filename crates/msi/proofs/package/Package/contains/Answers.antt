use Rattle.std.proofs.Common.{◌∙◌, ap}
use Rattle.msi_database_storage.specs.Streams.{has_stream_at}
use Rattle.msi.specs.Whole.{Whole}
use Rattle.msi.proofs.named_streams.StreamCallLemmas.{told_there}
use Rattle.msi.proofs.package.Package.contains.Goals as goal

pub returns : goal.returns
returns g c =
    let p = c.self.inside in
    c.contains.ensures
    ∙ told_there p.database c.streams.result.now c.streams.ensures p.open p.current.bytes c.args.key.now c.self.invariant.current
    ∙ ap (λ (w : Whole). has_stream_at c.args.key.now w.state.kept.streams) c.self.view_is
