use Rattle.std.proofs.Common.{sym, ap}
use Rattle.msi_container_device.specs.Held.{Held, from_first}
use Rattle.msi_container_device.proofs.HeldLemmas.{further_further}
use Rattle.msi_container_device.proofs.memory.MemorySource.read.Goals as goal

pub returns-clause-after : goal.returns-clause-after
returns-clause-after c =
    let moved = further_further c.self.inside.place c.min-count.result (from_first c.self.inside.bytes.items) in
    rw (← c.self.view_is) (ap (λ (h : Held). record { held = h; failed = c.self.inside.failed }) (sym moved))
