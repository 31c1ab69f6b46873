-- What a tree stands for, and what it is worth.
use Rattle.std.specs.Prelude.{ℕ, Bool, false, List, ◌&&◌, ◌||◌}
use Rattle.msi_table_values.specs.declared.value.Value.{Value}
use Rattle.msi_table_values.specs.Values.{is_true}
use Rattle.msi_query_expressions.specs.declared.expr.Tree.{Tree, Literal, Column, Unary', Binary', And', Or'}
use Rattle.msi_query_expressions.specs.Expressions.{Expression, literal, column, unary, binary, both, either}
use Rattle.msi_query_expressions.specs.OperatorValues.{truth, unary_value, binary_value}
use Rattle.msi_query_expressions.specs.OperatorValues.{is_sum}

-- the expression of a tree in which columns stand as their names
abbrev pub expression_of : Tree (List ℕ) → Expression
expression_of (Literal v) = literal v
expression_of (Column n) = column n
expression_of (Unary' op p e) = unary op (expression_of e)
expression_of (Binary' op p l q r) = binary op (expression_of l) (expression_of r)
expression_of (And' p l q r) = both (expression_of l) (expression_of r)
expression_of (Or' p l q r) = either (expression_of l) (expression_of r)

-- the value of a tree, where `at` gives the value of each column, however columns stand in it
abbrev pub tree_value : {C : Type 0} → (C → Value) → Tree C → Value
tree_value at (Literal v) = v
tree_value at (Column c) = at c
tree_value at (Unary' op p e) = unary_value op (tree_value at e)
tree_value at (Binary' op p l q r) = binary_value op (tree_value at l) (tree_value at r)
tree_value at (And' p l q r) = truth (is_true (tree_value at l) && is_true (tree_value at r))
tree_value at (Or' p l q r) = truth (is_true (tree_value at l) || is_true (tree_value at r))

-- whether something is added in a tree
abbrev pub tree_has_sum : {C : Type 0} → Tree C → Bool
tree_has_sum (Literal v) = false
tree_has_sum (Column c) = false
tree_has_sum (Unary' op p e) = tree_has_sum e
tree_has_sum (Binary' op p l q r) = is_sum op || tree_has_sum l || tree_has_sum r
tree_has_sum (And' p l q r) = tree_has_sum l || tree_has_sum r
tree_has_sum (Or' p l q r) = tree_has_sum l || tree_has_sum r
