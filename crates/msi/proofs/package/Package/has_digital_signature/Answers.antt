use Rattle.std.proofs.Common.{◌∙◌, ap}
use Rattle.msi_database_storage.specs.Streams.{has_stream_at}
use Rattle.msi.proofs.named_streams.StreamCallLemmas.{has_signature}
use Rattle.msi.proofs.package.Package.has_digital_signature.Goals as goal

pub returns : goal.returns
returns g c =
    c.contains.ensures ∙ ap (λ key. has_stream_at key c.args.self.now.state.kept.streams) c.signature_key.ensures
    ∙ has_signature c.args.self.now.state.kept
