-- Expressions as values.
use Rattle.std.specs.Prelude.{ℕ, List, [], ◌∷◌, ◌++◌}
use Rattle.msi_table_values.specs.declared.value.Value.{Value}
use Rattle.msi_query_expressions.specs.declared.operators.UnaryOp.{UnaryOp}
use Rattle.msi_query_expressions.specs.declared.operators.BinaryOp.{BinaryOp}

pub data Expression : Type 0 where
  literal : Value → Expression
  column : List ℕ → Expression
  unary : UnaryOp → Expression → Expression
  binary : BinaryOp → Expression → Expression → Expression
  both : Expression → Expression → Expression
  either : Expression → Expression → Expression

-- the columns that an expression names
abbrev pub names_in : Expression → List (List ℕ)
names_in (literal v) = []
names_in (column n) = n ∷ []
names_in (unary op e) = names_in e
names_in (binary op l r) = names_in l ++ names_in r
names_in (both l r) = names_in l ++ names_in r
names_in (either l r) = names_in l ++ names_in r
