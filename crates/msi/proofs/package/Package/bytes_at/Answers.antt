use Rattle.std.proofs.Common.{◌∙◌, Some, ap, sym}
use Rattle.msi_database_storage.specs.Streams.{stream_at}
use Rattle.msi.specs.Renewing.{opened}
use Rattle.msi.specs.Whole.{Whole}
use Rattle.msi.proofs.named_streams.StreamCallLemmas.{bytes_open, bytes_other, told_at}
use Rattle.msi.proofs.package.Package.bytes_at.Goals as goal

pub returns-then-eq : goal.returns-then-eq
returns-then-eq g c =
    let p = c.self.inside in
    let key = c.args.key.now in
    ap Some c.as_slice.ensures
    ∙ bytes_open p.database.streams c.in-Some.open key p.current.bytes (sym c.eq.ensures ∙ c.if-eq.true)
    ∙ ap (λ n. stream_at key (opened n p.current.bytes p.database.streams)) (sym c.in-Some.is)
    ∙ ap (λ (w : Whole). stream_at key w.state.kept.streams) c.self.view_is

pub returns-else-eq : goal.returns-else-eq
returns-else-eq g c =
    let p = c.self.inside in
    let key = c.args.key.now in
    c.bytes_of.ensures
    ∙ told_at p.database c.streams.result.now c.streams.ensures key
    ∙ bytes_other p.database.streams c.in-Some.open key p.current.bytes (sym c.eq.ensures ∙ c.if-eq.false)
    ∙ ap (λ n. stream_at key (opened n p.current.bytes p.database.streams)) (sym c.in-Some.is)
    ∙ ap (λ (w : Whole). stream_at key w.state.kept.streams) c.self.view_is

pub returns-in-None : goal.returns-in-None
returns-in-None g c =
    let p = c.self.inside in
    let key = c.args.key.now in
    c.bytes_of-in-None.ensures
    ∙ told_at p.database c.streams-in-None.result.now c.streams-in-None.ensures key
    ∙ ap (λ n. stream_at key (opened n p.current.bytes p.database.streams)) (sym c.in-None.is)
    ∙ ap (λ (w : Whole). stream_at key w.state.kept.streams) c.self.view_is
