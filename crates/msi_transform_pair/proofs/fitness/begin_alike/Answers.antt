use Rattle.std.proofs.Common.{◌∙◌, arith, sym}
use Rattle.msi_transform_pair.proofs.FitnessLemmas.{ends_early}
use Rattle.msi_transform_pair.proofs.fitness.begin_alike.Goals as goal

pub returns-then-i-others : goal.returns-then-i-others
returns-then-i-others c = sym (sym c.loop-i.invariant.same ∙ ends_early c.args.rows.now c.args.others.now c.loop-i.i (omega arith) (omega arith))
