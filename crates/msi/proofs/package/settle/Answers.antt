use Rattle.std.proofs.Common.{sym}
use Rattle.msi.proofs.named_streams.OpenStreamLemmas.{open_is_other, open_there}
use Rattle.msi.proofs.package.settle.Goals as goal

pub put_back_stream-requires-clause-other : goal.put_back_stream-requires-clause-other
put_back_stream-requires-clause-other c =
    open_is_other c.args.database.now c.in-Some.name
    (open_there c.args.database.now c.args.name.now c.in-Some.name (sym c.in-Some.ensures.value) c.requires)
