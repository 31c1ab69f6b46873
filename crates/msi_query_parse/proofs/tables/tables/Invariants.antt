use Rattle.std.proofs.Common.{◌≡◌, ◌-◌}
use Rattle.msi_query_tokens.specs.declared.refusal.Expected.TheVariants as expected
use Rattle.msi_query_parse.specs.Reading.{tables, listed_from, one_table}
use Rattle.msi_query_parse.proofs.tables.tables.Given as goal

abbrev pub invariant-loop-turn : goal.invariant-loop-turn
invariant-loop-turn l = tables l.initial.tokens ≡ listed_from expected.Side one_table (l._turn-end - l._turn) l.found l.tokens
