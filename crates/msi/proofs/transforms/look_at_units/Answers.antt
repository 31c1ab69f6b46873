use Rattle.std.proofs.Common.{arith}
use Rattle.msi.proofs.transforms.look_at_units.Goals as goal

pub returns : goal.returns
returns c = λ i within. omega (arith, c.type_inv.units i)
