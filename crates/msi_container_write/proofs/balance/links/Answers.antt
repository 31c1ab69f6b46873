use Rattle.std.proofs.Common.{arith, ◌∙◌, sym}
use Rattle.msi_container_write.proofs.directories.BalanceLemmas.{step_below, step_above, step_here}
use Rattle.msi_container_write.proofs.balance.links.Goals as goal

pub loop-lo-preserved-then-k-lo : goal.loop-lo-preserved-then-k-lo
loop-lo-preserved-then-k-lo c =
    let i = c.loop-lo.invariant in
    let s = step_below i.left.0 c.loop-lo.lo c.loop-lo.count c.args.k i.left.1 (omega arith) c.if-k-lo.true in
    record { from = i.from; to = c.if-k-lo.true; within = omega arith; left = (s.0, s.1, i.left.2 ∙ s.2, i.left.3 ∙ s.3) }

pub returns-then-k-lo-2 : goal.returns-then-k-lo-2
returns-then-k-lo-2 c =
    let i = c.loop-lo.invariant in
    let s = step_here i.left.0 c.loop-lo.lo c.loop-lo.count c.args.k i.left.1 (omega arith) c.if-k-lo-2.true in
    record { left = c.middle.ensures ∙ sym (i.left.2 ∙ s.0); right = c.middle-then-k-lo-2.ensures ∙ sym (i.left.3 ∙ s.1) }

pub loop-lo-preserved : goal.loop-lo-preserved
loop-lo-preserved c =
    let i = c.loop-lo.invariant in
    let s = step_above i.left.0 c.loop-lo.lo c.loop-lo.count c.args.k i.left.1 (omega arith) (omega arith) in
    record { from = omega arith; to = omega arith; within = omega arith; left = (s.0, s.1, i.left.2 ∙ s.2, i.left.3 ∙ s.3) }
