use Rattle.std.proofs.Common.{rules, ◌≡◌, ap, ◌∙◌}
use Rattle.std.specs.FinMap.{entries}
use Rattle.msi_container_view.specs.Views.{extents_at}
use Rattle.msi_container_view.proofs.ViewLemmas.{extents_are}
use Rattle.msi_database_schema.specs.Keys.{is_stream_name, stream_key}
use Rattle.msi_view.proofs.ViewLemmas.{named_missing, named_told}
use Rattle.msi_view.proofs.view.View.extents_of_stream.Goals as goal

pub returns-in-Some : goal.returns-in-Some
returns-in-Some g c =
    let listed : entries c.streams.result.now ≡ c.args.self.now.streams = search rules in
    let name = c.args.name.now in
    c.get.ensures ∙ extents_are c.streams.result.now c.in-Some.key ∙ ap (λ located. extents_at c.in-Some.key located) listed
    ∙ named_told (is_stream_name name) c.in-Some.key (stream_key name) (λ key. extents_at key c.args.self.now.streams) c.in-Some.ensures

pub returns-in-None : goal.returns-in-None
returns-in-None g c =
    let name = c.args.name.now in
    named_missing (is_stream_name name) (stream_key name) (λ key. extents_at key c.args.self.now.streams) c.in-None.ensures
