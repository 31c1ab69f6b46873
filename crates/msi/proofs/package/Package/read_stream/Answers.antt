use Rattle.std.proofs.Common.{◌∙◌, Some, ap, sym}
use Rattle.msi_streams.specs.Cursor.{at_start}
use Rattle.msi.proofs.named_streams.StreamRefusalLemmas.{read_bytes, read_missing, read_passes}
use Rattle.msi.proofs.package.Package.read_stream.Goals as goal

pub returns-in-Some-clause-start : goal.returns-in-Some-clause-start
returns-in-Some-clause-start g c =
    c.new.ensures
    ∙ ap at_start (read_bytes c.args.self.now.state c.args.name.now c.in_ok-key.key c.in_ok-key.ensures c.in-Some.bytes.now c.in-Some.ensures)

pub returns-in-Some-clause-accepted : goal.returns-in-Some-clause-accepted
returns-in-Some-clause-accepted g c =
    read_passes c.args.self.now.state c.args.name.now c.in_ok-key.key c.in_ok-key.ensures c.in-Some.bytes.now c.in-Some.ensures

pub returns-in-None-clause-kind : goal.returns-in-None-clause-kind
returns-in-None-clause-kind g c =
    read_missing c.args.self.now.state c.args.name.now c.in_ok-key.key c.in_ok-key.ensures c.in-None.ensures
    ∙ ap Some (sym c.new-in-None.ensures)
