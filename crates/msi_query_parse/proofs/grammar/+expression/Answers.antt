use Rattle.std.proofs.Common.{◌≡◌, ap, sym, ◌∙◌, Err, arith}
use Rattle.msi_query_parse.specs.Reading.{expression}
use Rattle.msi_query_parse.proofs.Turns.{deeper}
use Rattle.msi_query_parse.proofs.grammar.+expression.Goals as goal

pub returns-then-depth-eq0 : goal.returns-then-depth-eq0
unfolding expression
returns-then-depth-eq0 t c _ =
    let none : c.args.depth ≡ 0 = omega arith in
    ap (λ n. expression n c.args.least c.args.tokens.now) none ∙ ap Err (sym c.refuse.ensures)

pub returns : goal.returns
unfolding expression
returns t c = rw (deeper (λ n. expression n c.args.least c.args.tokens.now) c.args.depth (omega arith)) c.level.ensures
