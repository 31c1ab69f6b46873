use Rattle.std.proofs.Common.{◌≡◌, ◌-◌}
use Rattle.msi_query_tokens.specs.declared.refusal.Expected.TheVariants as expected
use Rattle.msi_query_parse.specs.Reading.{assignments, listed_from, assignment}
use Rattle.msi_query_parse.proofs.queries.assignments.Given as goal

abbrev pub invariant-loop-turn : goal.invariant-loop-turn
invariant-loop-turn l = assignments l.initial.query l.initial.tokens ≡ listed_from expected.Name assignment (l._turn-end - l._turn) l.query l.tokens
