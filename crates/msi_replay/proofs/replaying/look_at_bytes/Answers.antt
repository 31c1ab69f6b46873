use Rattle.std.proofs.Common.{arith}
use Rattle.msi_replay.proofs.ReplayedLemmas.{are_bytes}
use Rattle.msi_replay.proofs.replaying.look_at_bytes.Goals as goal

pub returns : goal.returns
returns c = are_bytes c.args.bytes.now (λ i. omega (arith, c.type_inv.bytes i))
