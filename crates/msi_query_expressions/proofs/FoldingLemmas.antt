-- Folding keeps values, and what the constructors make is folded.
use Rattle.std.proofs.Common.{◌≡◌, ℕ, List, Bool, true, false, refl, ap, ◌∙◌, ◌&&◌, ◌||◌}
use Rattle.std.specs.Prelude.{IsTrue}
use Rattle.msi_table_values.specs.declared.value.Value.{Value}
use Rattle.msi_table_values.specs.Values.{is_true}
use Rattle.msi_query_expressions.specs.declared.operators.UnaryOp.{UnaryOp}
use Rattle.msi_query_expressions.specs.declared.operators.BinaryOp.{BinaryOp}
use Rattle.msi_query_expressions.specs.Expressions.{Expression, literal, column, unary, binary, both, either}
use Rattle.msi_query_expressions.specs.OperatorValues.{truth, unary_value, binary_value}
use Rattle.msi_query_expressions.specs.Evaluation.{value_of}
use Rattle.msi_query_expressions.specs.Folding.{folded_unary, folded_binary, folded, is_folded, FoldingKeepsValues, ConstructorsFold}

value_of-folded_unary : (at : List ℕ → Value) (op : UnaryOp) (e : Expression) → value_of at (folded_unary op e) ≡ value_of at (unary op e)
value_of-folded_unary at op (literal v) = refl
value_of-folded_unary at op e = refl

value_of-folded_binary : (at : List ℕ → Value) (op : BinaryOp) (l r : Expression) → value_of at (folded_binary op l r) ≡ value_of at (binary op l r)
value_of-folded_binary at op (literal v) (literal w) = refl
value_of-folded_binary at op (literal v) r = refl
value_of-folded_binary at op l r = refl

value_of-folded : (at : List ℕ → Value) (e : Expression) → value_of at (folded e) ≡ value_of at e
value_of-folded at (literal v) = refl
value_of-folded at (column n) = refl
value_of-folded at (unary op e) = value_of-folded_unary at op (folded e) ∙ ap (λ v. unary_value op v) (value_of-folded at e)
value_of-folded at (binary op l r) = value_of-folded_binary at op (folded l) (folded r)
    ∙ ap (λ v. binary_value op v (value_of at (folded r))) (value_of-folded at l) ∙ ap (λ v. binary_value op (value_of at l) v) (value_of-folded at r)
value_of-folded at (both l r) = ap (λ v. truth (is_true v && is_true (value_of at (folded r)))) (value_of-folded at l)
    ∙ ap (λ v. truth (is_true (value_of at l) && is_true v)) (value_of-folded at r)
value_of-folded at (either l r) = ap (λ v. truth (is_true v || is_true (value_of at (folded r)))) (value_of-folded at l)
    ∙ ap (λ v. truth (is_true (value_of at l) || is_true v)) (value_of-folded at r)

pub folding_keeps_values : FoldingKeepsValues
folding_keeps_values at = (value_of-folded_unary at, value_of-folded_binary at, value_of-folded at)

pub and_both : (a b : Bool) → IsTrue a → IsTrue b → IsTrue (a && b)
and_both true b p q = q
and_both false b p q = p

pub is_folded-folded_unary : (op : UnaryOp) (e : Expression) → IsTrue (is_folded e) → IsTrue (is_folded (folded_unary op e))
is_folded-folded_unary op (literal v) h = h
is_folded-folded_unary op e h = h

pub is_folded-folded_binary : (op : BinaryOp) (l r : Expression) → IsTrue (is_folded l) → IsTrue (is_folded r) → IsTrue (is_folded (folded_binary op l r))
is_folded-folded_binary op (literal v) (literal w) h k = h
is_folded-folded_binary op (literal v) r h k = k
is_folded-folded_binary op l r h k = and_both (is_folded l) (is_folded r) h k

pub constructors_fold : ConstructorsFold
constructors_fold = (
  is_folded-folded_unary,
  is_folded-folded_binary,
  λ l r h k. and_both (is_folded l) (is_folded r) h k,
  λ l r h k. and_both (is_folded l) (is_folded r) h k,
)
