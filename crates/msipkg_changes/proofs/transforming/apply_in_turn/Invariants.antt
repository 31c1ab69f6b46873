use Rattle.msipkg_changes.specs.TransformsInTurn.{AreApplied}
use Rattle.msipkg_changes.proofs.transforming.apply_in_turn.Given as goal

abbrev pub invariant-loop-word : goal.invariant-loop-word
invariant-loop-word l = record { applied : AreApplied l.asked.passing l.word-index l.fn.package l.package }
