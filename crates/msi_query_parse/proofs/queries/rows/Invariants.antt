use Rattle.std.proofs.Common.{◌≡◌, ◌-◌}
use Rattle.msi_query_tokens.specs.declared.refusal.Expected.TheVariants as expected
use Rattle.msi_query_parse.specs.Reading.{rows, listed_from, one_row}
use Rattle.msi_query_parse.proofs.queries.rows.Given as goal

abbrev pub invariant-loop-turn : goal.invariant-loop-turn
invariant-loop-turn l = rows l.initial.query l.initial.tokens ≡ listed_from expected.OpenBracket one_row (l._turn-end - l._turn) l.query l.tokens
