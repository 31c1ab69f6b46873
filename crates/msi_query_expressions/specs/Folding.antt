-- What the constructors of expressions make.
use Rattle.std.specs.Prelude.{◌≡◌, ℕ, Bool, true, false, not, List, ◌&&◌, IsTrue}
use Rattle.msi_table_values.specs.declared.value.Value.{Value}
use Rattle.msi_table_values.specs.declared.value.Value.TheVariants.{Null, Int, Str, Binary}
use Rattle.msi_query_expressions.specs.declared.operators.UnaryOp.{UnaryOp}
use Rattle.msi_query_expressions.specs.declared.operators.BinaryOp.{BinaryOp}
use Rattle.msi_query_expressions.specs.Expressions.{Expression, literal, column, unary, binary, both, either}
use Rattle.msi_query_expressions.specs.OperatorValues.{is_i32, unary_value, binary_value}
use Rattle.msi_query_expressions.specs.Evaluation.{value_of}

-- literals under unary and binary operators fold
abbrev pub folded_unary : UnaryOp → Expression → Expression
folded_unary op (literal v) = literal (unary_value op v)
folded_unary op e = unary op e

abbrev pub folded_binary : BinaryOp → Expression → Expression → Expression
folded_binary op (literal v) (literal w) = literal (binary_value op v w)
folded_binary op l r = binary op l r

-- the expression that the constructors make where this one says what is built
abbrev pub folded : Expression → Expression
folded (literal v) = literal v
folded (column n) = column n
folded (unary op e) = folded_unary op (folded e)
folded (binary op l r) = folded_binary op (folded l) (folded r)
folded (both l r) = both (folded l) (folded r)
folded (either l r) = either (folded l) (folded r)

-- folding changes no value: not at one operator, and so not of a whole expression
abbrev pub FoldingKeepsValues : Type 0
FoldingKeepsValues = (at : List ℕ → Value)
    → ((op : UnaryOp) (e : Expression) → value_of at (folded_unary op e) ≡ value_of at (unary op e))
    × ((op : BinaryOp) (l r : Expression) → value_of at (folded_binary op l r) ≡ value_of at (binary op l r))
    × ((e : Expression) → value_of at (folded e) ≡ value_of at e)

-- an expression that the constructors made: no operator stands over literals alone
abbrev pub is_literal : Expression → Bool
is_literal (literal v) = true
is_literal _ = false

abbrev pub is_folded : Expression → Bool
is_folded (literal v) = true
is_folded (column n) = true
is_folded (unary op e) = not (is_literal e) && is_folded e
is_folded (binary op l r) = not (is_literal l && is_literal r) && is_folded l && is_folded r
is_folded (both l r) = is_folded l && is_folded r
is_folded (either l r) = is_folded l && is_folded r

-- what the constructors make of folded expressions is folded
abbrev pub ConstructorsFold : Type 0
ConstructorsFold = ((op : UnaryOp) (e : Expression) → IsTrue (is_folded e) → IsTrue (is_folded (folded_unary op e)))
    × ((op : BinaryOp) (l r : Expression)
    → IsTrue (is_folded l) → IsTrue (is_folded r) → IsTrue (is_folded (folded_binary op l r)))
    × ((l r : Expression) → IsTrue (is_folded l) → IsTrue (is_folded r) → IsTrue (is_folded (both l r)))
    × ((l r : Expression) → IsTrue (is_folded l) → IsTrue (is_folded r) → IsTrue (is_folded (either l r)))

-- the literals of an expression that the constructors made: their numbers have 32 bits, and none stands for a stream
abbrev pub fits_literal : Value → Bool
fits_literal Null = true
fits_literal (Int n) = is_i32 n
fits_literal (Str text) = true
fits_literal Binary = false

abbrev pub literals_fit : Expression → Bool
literals_fit (literal v) = fits_literal v
literals_fit (column n) = true
literals_fit (unary op e) = literals_fit e
literals_fit (binary op l r) = literals_fit l && literals_fit r
literals_fit (both l r) = literals_fit l && literals_fit r
literals_fit (either l r) = literals_fit l && literals_fit r

-- what the constructors make, and so every `Expr`
abbrev pub is_built : Expression → Bool
is_built e = is_folded e && literals_fit e
