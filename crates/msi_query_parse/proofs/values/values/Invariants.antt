use Rattle.std.proofs.Common.{◌≡◌, ◌-◌}
use Rattle.msi_query_tokens.specs.declared.refusal.Expected.TheVariants as expected
use Rattle.msi_query_parse.specs.Reading.{values, listed_from, one_value}
use Rattle.msi_query_parse.proofs.values.values.Given as goal

abbrev pub invariant-loop-turn : goal.invariant-loop-turn
invariant-loop-turn l = values l.initial.tokens ≡ listed_from expected.Value one_value (l._turn-end - l._turn) l.found l.tokens
