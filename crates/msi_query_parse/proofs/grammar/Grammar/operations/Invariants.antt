use Rattle.std.proofs.Common.{◌≡◌, ◌-◌}
use Rattle.msi_query_parse.specs.Reading.{expression, operations, climb}
use Rattle.msi_query_parse.proofs.grammar.Grammar.operations.Given as goal

abbrev pub invariant-loop-turn : goal.invariant-loop-turn
invariant-loop-turn g l = operations l.self.depth (expression l.self.depth) l.least l.fn.left l.fn.tokens ≡ climb l.self.depth (expression l.self.depth) l.least (l._turn-end - l._turn) l.left l.tokens
