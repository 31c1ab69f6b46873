use Rattle.std.proofs.Common.{◌≡◌, length, map}
use Rattle.msi_query_tokens.specs.Tokens.{word_kind}
use Rattle.msi_query_tokens.proofs.lex.word_kind.Given as goal

abbrev pub invariant-loop-words : goal.invariant-loop-words
invariant-loop-words l = word_kind (map (λ k. (k.0.now, k.1)) l.words) l.word ≡ word_kind (map (λ k. (k.0.now, k.1)) l.initial.words) l.word

abbrev pub decreases-loop-words : goal.decreases-loop-words
decreases-loop-words l = length l.words
