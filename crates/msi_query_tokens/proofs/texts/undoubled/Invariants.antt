use Rattle.std.proofs.Common.{◌≡◌, ◌++◌, length, false}
use Rattle.msi_query_tokens.specs.Texts.{undoubled}
use Rattle.msi_query_tokens.proofs.texts.undoubled.Given as goal

abbrev pub invariant-loop-text : goal.invariant-loop-text
invariant-loop-text l = l.bytes.items ++ undoubled l.quote l.is_second l.text ≡ undoubled l.quote false l.initial.text

abbrev pub decreases-loop-text : goal.decreases-loop-text
decreases-loop-text l = length l.text
