use Rattle.std.proofs.Common.{◌≡◌, ap, sym, ◌∙◌, Err, arith}
use Rattle.msi_query_parse.specs.Reading.{query}
use Rattle.msi_query_parse.proofs.Turns.{deeper}
use Rattle.msi_query_parse.proofs.sources.+query.Goals as goal

pub returns-then-depth-eq0 : goal.returns-then-depth-eq0
unfolding query
returns-then-depth-eq0 t c _ =
    let none : c.args.depth ≡ 0 = omega arith in
    ap (λ n. query n c.args.tokens.now) none ∙ ap Err (sym c.refuse.ensures)

pub returns : goal.returns
unfolding query
returns t c = rw (deeper (λ n. query n c.args.tokens.now) c.args.depth (omega arith)) c.select.ensures
