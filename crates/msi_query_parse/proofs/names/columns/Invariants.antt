use Rattle.std.proofs.Common.{◌≡◌, ◌-◌}
use Rattle.msi_query_parse.specs.Reading.{columns, listed_from, one_column}
use Rattle.msi_query_parse.proofs.names.columns.Given as goal

abbrev pub invariant-loop-turn : goal.invariant-loop-turn
invariant-loop-turn l = columns l.expected l.initial.tokens ≡ listed_from l.expected (one_column l.expected) (l._turn-end - l._turn) l.found l.tokens
