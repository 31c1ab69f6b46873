use Rattle.std.proofs.Common.{◌≡◌, ◌-◌}
use Rattle.msi_query_parse.specs.Reading.{query, joins, joins_from}
use Rattle.msi_query_parse.proofs.sources.Sources.joins.Given as goal

abbrev pub invariant-loop-turn : goal.invariant-loop-turn
invariant-loop-turn g l = joins l.self.depth (query l.self.depth) l.fn.left l.fn.tokens ≡ joins_from l.self.depth (query l.self.depth) (l._turn-end - l._turn) l.left l.tokens
