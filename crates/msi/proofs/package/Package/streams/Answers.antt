use Rattle.std.proofs.Common.{◌∙◌, ap}
use Rattle.msi.specs.State.{parts_of}
use Rattle.msi.specs.Steps.{stream_names}
use Rattle.msi.specs.Whole.{Whole}
use Rattle.msi.proofs.named_streams.StreamNameLemmas.{names_told}
use Rattle.msi.proofs.package.Package.streams.Goals as goal

pub returns : goal.returns
returns g c =
    let p = c.self.inside in
    c.new.ensures
    ∙ names_told p.database c.streams.result.now c.streams.ensures p.open p.current.bytes c.self.invariant.current
    ∙ ap (λ (w : Whole). stream_names (parts_of w.state)) c.self.view_is
