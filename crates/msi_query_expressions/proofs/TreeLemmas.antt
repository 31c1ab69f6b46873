-- A tree in which columns stand as their names is worth what its expression is.
use Rattle.std.proofs.Common.{◌≡◌, ℕ, List, Bool, ◌&&◌, ◌||◌, refl, ap, ap₂}
use Rattle.msi_table_values.specs.declared.value.Value.{Value}
use Rattle.msi_table_values.specs.Values.{is_true}
use Rattle.msi_query_expressions.specs.declared.expr.Tree.{Tree, Literal, Column, Unary', Binary', And', Or'}
use Rattle.msi_query_expressions.specs.OperatorValues.{is_sum}
use Rattle.msi_query_expressions.specs.Conditions.{has_sum}
use Rattle.msi_query_expressions.specs.OperatorValues.{truth, unary_value, binary_value}
use Rattle.msi_query_expressions.specs.Evaluation.{value_of}
use Rattle.msi_query_expressions.specs.Trees.{expression_of, tree_has_sum, tree_value}

pub tree_value-expression_of : (at : List ℕ → Value) (t : Tree (List ℕ))
    → tree_value at t ≡ value_of at (expression_of t)
tree_value-expression_of at (Literal v) = refl
tree_value-expression_of at (Column n) = refl
tree_value-expression_of at (Unary' op p e) = ap (λ v. unary_value op v) (tree_value-expression_of at e)
tree_value-expression_of at (Binary' op p l q r) =
    ap₂ (λ v w. binary_value op v w) (tree_value-expression_of at l) (tree_value-expression_of at r)
tree_value-expression_of at (And' p l q r) =
    ap₂ (λ v w. truth (is_true v && is_true w)) (tree_value-expression_of at l) (tree_value-expression_of at r)
tree_value-expression_of at (Or' p l q r) =
    ap₂ (λ v w. truth (is_true v || is_true w)) (tree_value-expression_of at l) (tree_value-expression_of at r)

pub tree_has_sum-expression_of : (t : Tree (List ℕ)) → tree_has_sum t ≡ has_sum (expression_of t)
tree_has_sum-expression_of (Literal v) = refl
tree_has_sum-expression_of (Column n) = refl
tree_has_sum-expression_of (Unary' op p e) = tree_has_sum-expression_of e
tree_has_sum-expression_of (Binary' op p l q r) =
    ap₂ (λ (a b : Bool). is_sum op || a || b) (tree_has_sum-expression_of l) (tree_has_sum-expression_of r)
tree_has_sum-expression_of (And' p l q r) =
    ap₂ (λ (a b : Bool). a || b) (tree_has_sum-expression_of l) (tree_has_sum-expression_of r)
tree_has_sum-expression_of (Or' p l q r) =
    ap₂ (λ (a b : Bool). a || b) (tree_has_sum-expression_of l) (tree_has_sum-expression_of r)
