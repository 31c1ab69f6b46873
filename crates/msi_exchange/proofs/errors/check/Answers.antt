use Rattle.std.proofs.Common.{ap}
use Rattle.msi_exchange.specs.Places.{unless}
use Rattle.msi_exchange.proofs.PlaceLemmas.{input_at}
use Rattle.msi_exchange.proofs.errors.check.Goals as goal

pub returns-else-holds-clause-place : goal.returns-else-holds-clause-place
returns-else-holds-clause-place c = input_at c.new.result c.args.place _ c.new.ensures (ap (λ b. unless b c.args.place) c.if-holds.false)
