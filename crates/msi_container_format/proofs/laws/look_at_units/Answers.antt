use Rattle.std.proofs.Common.{arith}
use Rattle.msi_container_format.proofs.SpelledUnitsLemmas.{are_units}
use Rattle.msi_container_format.proofs.laws.look_at_units.Goals as goal

pub returns : goal.returns
returns c = are_units c.args.units.now (λ i. omega (arith, c.type_inv.units i))
