use Rattle.std.proofs.Common.{ap, is_some, ◌∙◌}
use Rattle.msi_container_view.specs.Views.{extents_at}
use Rattle.msi_database_schema.specs.Keys.{is_stream_name, stream_key}
use Rattle.msi_view.proofs.ViewLemmas.{is_some_copied, some_named}
use Rattle.msi_view.proofs.view.View.has_stream.Goals as goal

pub returns : goal.returns
returns g c =
    let name = c.args.name.now in
    c.is_some.ensures ∙ is_some_copied c.extents_of_stream.result ∙ ap is_some c.extents_of_stream.ensures
    ∙ some_named (is_stream_name name) (extents_at (stream_key name) c.args.self.now.streams)
