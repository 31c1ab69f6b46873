use Rattle.std.proofs.Common.{◌≡◌, Ok, rules, arith}
use Rattle.std.proofs.lemmas.Grind.{common_steps}
use Rattle.msi_container_device.proofs.HeldLemmas.{more_of_piece}
use Rattle.msi_container_device.proofs.writing.write_all.Goals as goal

pub loop-written-preserved : goal.loop-written-preserved
loop-written-preserved g c =
    let took : c.write.result ≡ Ok c.in_ok-count.count = search rules in
    record {
      within = search rules;
      held = more_of_piece _ _ _ _ _ _ _ c.loop-written.invariant.held (rw took at c.write.ensures.held) (grind (arith, common_steps));
      failed = search rules;
    }
