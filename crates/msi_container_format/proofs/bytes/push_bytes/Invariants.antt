use Rattle.std.proofs.Common.{◌≡◌, ◌++◌}
use Rattle.msi_container_format.specs.Bytes.{bytes_at}
use Rattle.msi_container_format.proofs.bytes.push_bytes.Given as goal

abbrev pub invariant-loop : goal.invariant-loop
invariant-loop l = l.held.items ≡ l.fn.held.items ++ bytes_at l.bytes l.from l.counter
