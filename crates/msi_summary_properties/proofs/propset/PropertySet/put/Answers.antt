use Rattle.std.proofs.Common.{arith}
use Rattle.msi_summary_properties.proofs.KeptSetLemmas.{IsKept-with_value}
use Rattle.msi_summary_properties.proofs.propset.PropertySet.put.Goals as goal

pub invariant_of-self-2 : goal.invariant_of-self-2
invariant_of-self-2 c = rw c.in_ok-insert.ensures.entries (IsKept-with_value c.args.id c.args.value _ c.requires (omega (arith, c.ranges.id)) c.read_number.ensures c.self.invariant)
