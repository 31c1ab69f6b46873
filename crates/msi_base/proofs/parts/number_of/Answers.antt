use Rattle.std.proofs.Common.{arith}
use Rattle.byteorder.specs.Numbers.{little_from-lt}
use Rattle.msi_base.proofs.NumberLemmas.{little_from-all}
use Rattle.msi_base.proofs.parts.number_of.Goals as goal

pub returns-clause-value : goal.returns-clause-value
returns-clause-value c = rw c.read_uint.ensures (little_from-all c.args.bytes.now)

pub returns-clause-below : goal.returns-clause-below
returns-clause-below c = rw c.read_uint.ensures (little_from-lt 0 _ c.args.bytes.now (λ i. omega (arith, c.type_inv.bytes i)))
