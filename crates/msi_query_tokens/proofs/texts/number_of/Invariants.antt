use Rattle.std.proofs.Common.{◌≡◌, ◌+◌, ◌-◌, ◌*◌, ◌≤◌, min, fold, length}
use Rattle.msi_query_tokens.proofs.texts.number_of.Given as goal

abbrev pub invariant-loop-digits : goal.invariant-loop-digits
invariant-loop-digits l = (fold (λ n b. min (n * 10 + (b - 48)) 2147483649) l.number l.digits ≡ fold (λ n b. min (n * 10 + (b - 48)) 2147483649) 0 l.initial.digits) × (l.number ≤ 2147483649)

abbrev pub decreases-loop-digits : goal.decreases-loop-digits
decreases-loop-digits l = length l.digits
