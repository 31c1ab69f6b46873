use Rattle.std.proofs.Common.{arith}
use Rattle.msi_transform_applying.proofs.AgreeingLemmas.{name_added}
use Rattle.msi_transform_applying.proofs.agreeing.names_of.Goals as goal

pub loop-stored-preserved : goal.loop-stored-preserved
loop-stored-preserved c = name_added c.loop-stored.names c.insert.new.self c.args.said.now c.loop-stored.stored-index c.stored-item.result c.duplicate.result (omega arith) c.stored-item.is
    c.duplicate.ensures c.loop-stored.invariant c.in_ok-insert.ensures.updates
