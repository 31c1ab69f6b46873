use Rattle.std.proofs.Common.{rules, arith}
use Rattle.std.proofs.lemmas.Grind.{common_steps}
use Rattle.msi_query_parse.specs.Reading.{listed_from, one_column}
use Rattle.msi_query_parse.proofs.Turns.{one_more, no_more}
use Rattle.msi_query_parse.proofs.names.columns.Goals as goal

pub returns-in_err-column : goal.returns-in_err-column
unfolding listed_from
returns-in_err-column c =
    let e = one_more (λ n. listed_from c.args.expected (one_column c.args.expected) n c.loop-turn.found c.loop-turn.tokens) _ c.loop-turn._turn c.loop-turn-test.true c.loop-turn.invariant in
    first_of (search rules, grind (arith, common_steps))

pub returns-then-not-eat : goal.returns-then-not-eat
unfolding listed_from
returns-then-not-eat c =
    let e = one_more (λ n. listed_from c.args.expected (one_column c.args.expected) n c.loop-turn.found c.loop-turn.tokens) _ c.loop-turn._turn c.loop-turn-test.true c.loop-turn.invariant in
    first_of (search rules, grind (arith, common_steps))

pub loop-turn-preserved : goal.loop-turn-preserved
unfolding listed_from
loop-turn-preserved c =
    let e = one_more (λ n. listed_from c.args.expected (one_column c.args.expected) n c.loop-turn.found c.loop-turn.tokens) _ c.loop-turn._turn c.loop-turn-test.true c.loop-turn.invariant in
    first_of (search rules, grind (arith, common_steps))

pub returns : goal.returns
unfolding listed_from
returns c =
    let e = no_more (λ n. listed_from c.args.expected (one_column c.args.expected) n c.loop-turn.found c.loop-turn.tokens) _ c.loop-turn._turn c.loop-turn-test.false c.loop-turn.invariant in
    first_of (search rules, grind (arith, common_steps))
