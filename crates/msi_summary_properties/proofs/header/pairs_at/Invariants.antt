use Rattle.std.proofs.Common.{◌≡◌, ◌-◌}
use Rattle.msi_summary_properties.specs.Reading.{pairs_at}
use Rattle.msi_summary_properties.proofs.PairsLoopLemmas.{with_front}
use Rattle.msi_summary_properties.proofs.header.pairs_at.Given as goal

abbrev pub invariant-loop : goal.invariant-loop
invariant-loop l = with_front l.pairs.items (pairs_at (l.count - l.counter) l.rest) ≡ pairs_at l.count l.bytes
