use Rattle.std.proofs.Common.{◌≡◌, ◌+◌, ◌≤◌, length, false}
use Rattle.msi_query_tokens.specs.Tokens.{closing}
use Rattle.msi_query_tokens.proofs.lex.closing.Given as goal

abbrev pub invariant-loop-text : goal.invariant-loop-text
invariant-loop-text l = (closing l.quote l.is_taken l.place l.text ≡ closing l.quote false 1 l.initial.text) × (l.place + length l.text ≡ length l.initial.text + 1) × (1 ≤ l.place)

abbrev pub decreases-loop-text : goal.decreases-loop-text
decreases-loop-text l = length l.text
