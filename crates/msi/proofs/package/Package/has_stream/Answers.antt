use Rattle.msi.proofs.named_streams.StreamCallLemmas.{has_none, has_told}
use Rattle.msi.proofs.package.Package.has_stream.Goals as goal

pub returns-in-Some : goal.returns-in-Some
returns-in-Some g c = has_told c.args.self.now.state c.args.name.now c.in-Some.key c.contains.result c.in-Some.ensures c.contains.ensures

pub returns-in-None : goal.returns-in-None
returns-in-None g c = has_none c.args.self.now.state c.args.name.now c.in-None.ensures
