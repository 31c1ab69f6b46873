use Rattle.std.proofs.lemmas.Result.{IfOk-weaker, on_ok_weaker}
use Rattle.msi_container_read.proofs.plans.StorageLemmas.{at_root, held_at_root, held_of_root}
use Rattle.msi_container_read.proofs.reading.read_root.Goals as goal

pub returns-clause-found : goal.returns-clause-found
returns-clause-found c = IfOk-weaker c.read_from.result _ _ (λ contents held. held_of_root c.args.bytes.now contents held) c.read_from.ensures.found

pub returns-clause-only : goal.returns-clause-only
returns-clause-only c = λ contents held. c.read_from.ensures.only contents (held_at_root c.args.bytes.now contents held)

pub returns-clause-exact : goal.returns-clause-exact
returns-clause-exact c = on_ok_weaker c.read_from.result (λ exact plan h. exact 0 plan (at_root c.args.bytes.now plan h)) c.read_from.ensures.exact
