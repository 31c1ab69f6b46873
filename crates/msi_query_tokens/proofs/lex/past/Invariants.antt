use Rattle.std.proofs.Common.{◌≡◌, ◌+◌, ◌-◌, ◌≤◌, length, drop}
use Rattle.std.specs.List.{prefix_len}
use Rattle.msi_query_tokens.specs.Tokens.{is_in}
use Rattle.msi_query_tokens.proofs.lex.past.Given as goal

abbrev pub invariant-loop-end : goal.invariant-loop-end
invariant-loop-end l =
    (l.end + prefix_len (is_in l.class) (drop l.end l.text) ≡ l.start + prefix_len (is_in l.class) (drop l.start l.text)) × (l.start ≤ l.end) × (l.end ≤ length l.text)

abbrev pub decreases-loop-end : goal.decreases-loop-end
decreases-loop-end l = length l.text - l.end
