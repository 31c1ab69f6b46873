use Rattle.std.proofs.Common.{◌≡◌, ◌∙◌, refl, sym, ap, subst}
use Rattle.std.specs.Prelude.{IfOk, IsTrue}
use Rattle.std.proofs.lemmas.Bool.{or_left, or_right}
use Rattle.msi_table_values.specs.Values.{is_text}
use Rattle.msi_query_expressions.specs.Conditions.{has_sum}
use Rattle.msi_query_expressions.specs.Evaluation.{value_at, value_of}
use Rattle.msi_query_expressions.specs.Operands.{operand_value}
use Rattle.msi_query_expressions.proofs.TreeLemmas.{tree_has_sum-expression_of, tree_value-expression_of}
use Rattle.msi_query_expressions.proofs.expr.Expr.eval.Goals as goal

-- the operand is worth what the expression is
value_is : (c : goal.After-into_value)
    → operand_value c.in_ok-operand_of.field-0 ≡ value_of (value_at c.args.row.now) c.args.self.now
value_is c =
    let at = value_at c.args.row.now in
    c.in_ok-operand_of.ensures.ok ∙ tree_value-expression_of at c.self.inside.tree
    ∙ ap (λ e. value_of at e) c.self.view_is

pub returns-in_err-operand_of-clause-memory : goal.returns-in_err-operand_of-clause-memory
returns-in_err-operand_of-clause-memory c _ =
    or_left (has_sum c.args.self.now) (is_text (value_of (value_at c.args.row.now) c.args.self.now))
    (sym (tree_has_sum-expression_of c.self.inside.tree ∙ ap (λ e. has_sum e) c.self.view_is)
    ∙ c.in_err-operand_of.ensures.memory refl)

pub returns-clause-ok : goal.returns-clause-ok
returns-clause-ok c = subst (λ v. IfOk c.into_value.result (λ value. value ≡ v)) (value_is c) c.into_value.ensures.ok

pub returns-clause-memory : goal.returns-clause-memory
returns-clause-memory c err =
    or_right (has_sum c.args.self.now) (is_text (value_of (value_at c.args.row.now) c.args.self.now))
    (subst (λ v. IsTrue (is_text v)) (value_is c) (c.into_value.ensures.memory err))
