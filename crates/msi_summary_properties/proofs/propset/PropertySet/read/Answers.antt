use Rattle.std.proofs.Common.{arith}
use Rattle.msi_summary_properties.proofs.SetReadLemmas.{is_found, is_only}
use Rattle.msi_summary_properties.proofs.propset.PropertySet.read.Goals as goal

pub returns-clause-found : goal.returns-clause-found
returns-clause-found c = is_found c.args.bytes.now c.set_at.result (λ i. omega (arith, c.type_inv.bytes i)) c.set_at.ensures

pub returns-clause-only : goal.returns-clause-only
returns-clause-only c = λ set spelled. is_only c.args.bytes.now c.set_at.result set (λ i. omega (arith, c.type_inv.bytes i)) spelled c.set_at.ensures
