use Rattle.std.proofs.Common.{◌≡◌, length}
use Rattle.msi_query_expressions.specs.Meaning.{is_behind_dot}
use Rattle.msi_query_expressions.proofs.meaning.is_behind_dot.Given as goal

abbrev pub invariant-loop-text : goal.invariant-loop-text
invariant-loop-text l = is_behind_dot l.name l.text ≡ is_behind_dot l.name l.initial.text

abbrev pub decreases-loop-text : goal.decreases-loop-text
decreases-loop-text l = length l.text
