use Rattle.std.proofs.Common.{rules, arith}
use Rattle.std.proofs.lemmas.Grind.{common_steps}
use Rattle.msi_query_parse.specs.Reading.{expression, operations, climb}
use Rattle.msi_query_parse.proofs.Turns.{one_more, no_more}
use Rattle.msi_query_parse.proofs.grammar.Grammar.operations.Goals as goal

pub loop-turn-init : goal.loop-turn-init
unfolding operations
loop-turn-init g c = first_of (search rules, grind (arith, common_steps))

pub returns-then-binds-least : goal.returns-then-binds-least
unfolding climb
returns-then-binds-least g c =
    let e = one_more (λ n. climb c.args.self.now.depth (expression c.args.self.now.depth) c.args.least n c.loop-turn.left c.loop-turn.tokens) _ c.loop-turn._turn c.loop-turn-test.true c.loop-turn.invariant in
    first_of (search rules, grind (arith, common_steps))

pub returns-in_err-left : goal.returns-in_err-left
unfolding climb
returns-in_err-left g c =
    let e = one_more (λ n. climb c.args.self.now.depth (expression c.args.self.now.depth) c.args.least n c.loop-turn.left c.loop-turn.tokens) _ c.loop-turn._turn c.loop-turn-test.true c.loop-turn.invariant in
    first_of (search rules, grind (arith, common_steps))

pub loop-turn-preserved : goal.loop-turn-preserved
unfolding climb
loop-turn-preserved g c =
    let e = one_more (λ n. climb c.args.self.now.depth (expression c.args.self.now.depth) c.args.least n c.loop-turn.left c.loop-turn.tokens) _ c.loop-turn._turn c.loop-turn-test.true c.loop-turn.invariant in
    first_of (search rules, grind (arith, common_steps))

pub returns : goal.returns
unfolding climb
returns g c =
    let e = no_more (λ n. climb c.args.self.now.depth (expression c.args.self.now.depth) c.args.least n c.loop-turn.left c.loop-turn.tokens) _ c.loop-turn._turn c.loop-turn-test.false c.loop-turn.invariant in
    first_of (search rules, grind (arith, common_steps))
