use Rattle.std.proofs.Common.{rules, arith}
use Rattle.std.proofs.lemmas.Grind.{common_steps}
use Rattle.msi_query_parse.specs.Reading.{query, joins, joins_from}
use Rattle.msi_query_parse.proofs.Turns.{one_more, no_more}
use Rattle.msi_query_parse.proofs.sources.Sources.joins.Goals as goal

pub loop-turn-init : goal.loop-turn-init
unfolding joins
loop-turn-init g c = first_of (search rules, grind (arith, common_steps))

pub returns-then-not-sees_join : goal.returns-then-not-sees_join
unfolding joins_from
returns-then-not-sees_join g c =
    let e = one_more (λ n. joins_from c.args.self.now.depth (query c.args.self.now.depth) n c.loop-turn.left c.loop-turn.tokens) _ c.loop-turn._turn c.loop-turn-test.true c.loop-turn.invariant in
    first_of (search rules, grind (arith, common_steps))

pub returns-in_err-left : goal.returns-in_err-left
unfolding joins_from
returns-in_err-left g c =
    let e = one_more (λ n. joins_from c.args.self.now.depth (query c.args.self.now.depth) n c.loop-turn.left c.loop-turn.tokens) _ c.loop-turn._turn c.loop-turn-test.true c.loop-turn.invariant in
    first_of (search rules, grind (arith, common_steps))

pub loop-turn-preserved : goal.loop-turn-preserved
unfolding joins_from
loop-turn-preserved g c =
    let e = one_more (λ n. joins_from c.args.self.now.depth (query c.args.self.now.depth) n c.loop-turn.left c.loop-turn.tokens) _ c.loop-turn._turn c.loop-turn-test.true c.loop-turn.invariant in
    first_of (search rules, grind (arith, common_steps))

pub returns : goal.returns
unfolding joins_from
returns g c =
    let e = no_more (λ n. joins_from c.args.self.now.depth (query c.args.self.now.depth) n c.loop-turn.left c.loop-turn.tokens) _ c.loop-turn._turn c.loop-turn-test.false c.loop-turn.invariant in
    first_of (search rules, grind (arith, common_steps))
