use Rattle.std.proofs.lemmas.Result.{IfOk-weaker}
use Rattle.msi_transform_applying.specs.AnewInHand.{changed_in_hand}
use Rattle.msi_transform_applying.proofs.StorableLemmas.{are_storable}
use Rattle.msi_transform_applying.proofs.applying.transform_tables.Goals as goal

pub returns-clause-named : goal.returns-clause-named
returns-clause-named c = let s = c.args.change.now in
    IfOk-weaker c.changed_tables.result _ _
    (λ changed is. are_storable s.database.pool c.tables-tables.result.now s c.args.page_id (changed_in_hand changed) c.tables-tables.ensures.kept c.streams-streams.ensures.names is)
    c.changed_tables.ensures.ok
