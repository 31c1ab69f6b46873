use Rattle.std.proofs.Common.{rules}
use Rattle.msi_query_expressions.specs.Expressions.{names_in}
use Rattle.msi_query_expressions.specs.Trees.{expression_of}
use Rattle.msi_query_expressions.proofs.NamesLemmas.{has_name-inserted}
use Rattle.msi_query_expressions.proofs.expr.names.+collect_names.Goals as goal

pub returns-in_ok-insert-in-Column-clause-ok : goal.returns-in_ok-insert-in-Column-clause-ok
returns-in_ok-insert-in-Column-clause-ok t c =
    has_name-inserted c.args.names.now c.insert.new.self c.as_str.result (names_in (expression_of c.args.tree.now)) (search rules) c.in_ok-insert-in-Column.ensures.updates
