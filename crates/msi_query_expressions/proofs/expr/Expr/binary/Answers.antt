use Rattle.msi_query_expressions.specs.Trees.{expression_of}
use Rattle.msi_query_expressions.proofs.BuiltLemmas.{is_built-folded_binary}
use Rattle.msi_query_expressions.proofs.expr.Expr.binary.Goals as goal

pub invariant_of-result : goal.invariant_of-result
invariant_of-result c = rw c.in_ok-tree.ensures.ok
    (is_built-folded_binary c.args.op (expression_of c.self.inside.tree) (expression_of c.rhs.inside.tree)
    c.self.invariant c.rhs.invariant)
