use Rattle.std.proofs.Common.{◌≡◌, ◌++◌, replicate}
use Rattle.msi_summary_properties.proofs.writing.push_zeros.Given as goal

abbrev pub invariant-loop : goal.invariant-loop
invariant-loop l = l.held.items ≡ l.fn.held.items ++ replicate l.counter 0
