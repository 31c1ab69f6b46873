use Rattle.std.proofs.Common.{◌≡◌, ℕ, suc, ◌+◌, subst, arith}
use Rattle.msipkg_changes.specs.TransformsInTurn.{AreApplied}
use Rattle.msipkg_changes.proofs.transforming.apply_in_turn.Goals as goal

pub loop-word-preserved : goal.loop-word-preserved
loop-word-preserved c = let next : suc c.loop-word.word-index ≡ c.loop-word.word-index + 1 = omega arith in record {
  applied = subst (λ (n : ℕ). AreApplied c.args.asked.passing n c.args.package.now c.apply_named.new.package) next
      (c.loop-word.package, c.loop-word.invariant.applied, c.in_default.ensures.ok);
}
