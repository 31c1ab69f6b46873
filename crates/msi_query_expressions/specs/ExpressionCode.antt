-- How a proof stores an expression: its parts in postfix order.
use Rattle.std.specs.Prelude.{◌≡◌, ℕ, List, [], ◌∷◌, refl}
use Rattle.std.proofs.Common.{◌∙◌, ap}
use Rattle.std.specs.Coded.{Coded, code_by}
use Rattle.msi_table_values.specs.declared.value.Value.{Value}
use Rattle.msi_table_values.specs.declared.value.Value.TheVariants as values
use Rattle.msi_query_expressions.specs.declared.operators.UnaryOp.{UnaryOp}
use Rattle.msi_query_expressions.specs.declared.operators.BinaryOp.{BinaryOp}
use Rattle.msi_query_expressions.specs.Expressions.{Expression, literal, column, unary, binary, both, either}

pub data Symbol : Type 0 where
  value : Value → Symbol
  name : List ℕ → Symbol
  one : UnaryOp → Symbol
  two : BinaryOp → Symbol
  all : Symbol
  any : Symbol

abbrev pub postfix_before : Expression → List Symbol → List Symbol
postfix_before (literal v) others = value v ∷ others
postfix_before (column n) others = name n ∷ others
postfix_before (unary op e) others = postfix_before e (one op ∷ others)
postfix_before (binary op l r) others = postfix_before l (postfix_before r (two op ∷ others))
postfix_before (both l r) others = postfix_before l (postfix_before r (all ∷ others))
postfix_before (either l r) others = postfix_before l (postfix_before r (any ∷ others))

abbrev pub postfix : Expression → List Symbol
postfix e = postfix_before e []

abbrev pub read_postfix : List Symbol → List Expression → List Expression
read_postfix [] stack = stack
read_postfix (value v ∷ others) stack = read_postfix others (literal v ∷ stack)
read_postfix (name n ∷ others) stack = read_postfix others (column n ∷ stack)
read_postfix (one op ∷ others) (e ∷ stack) = read_postfix others (unary op e ∷ stack)
read_postfix (two op ∷ others) (r ∷ l ∷ stack) = read_postfix others (binary op l r ∷ stack)
read_postfix (all ∷ others) (r ∷ l ∷ stack) = read_postfix others (both l r ∷ stack)
read_postfix (any ∷ others) (r ∷ l ∷ stack) = read_postfix others (either l r ∷ stack)
read_postfix _ _ = []

abbrev pub first_or_null : List Expression → Expression
first_or_null [] = literal values.Null
first_or_null (e ∷ es) = e

abbrev pub from_postfix : List Symbol → Expression
from_postfix symbols = first_or_null (read_postfix symbols [])

pub read_postfix-postfix_before : (e : Expression) (others : List Symbol) (stack : List Expression)
    → read_postfix (postfix_before e others) stack ≡ read_postfix others (e ∷ stack)
read_postfix-postfix_before (literal v) others stack = refl
read_postfix-postfix_before (column n) others stack = refl
read_postfix-postfix_before (unary op e) others stack = read_postfix-postfix_before e (one op ∷ others) stack
read_postfix-postfix_before (binary op l r) others stack =
    read_postfix-postfix_before l (postfix_before r (two op ∷ others)) stack
    ∙ read_postfix-postfix_before r (two op ∷ others) (l ∷ stack)
read_postfix-postfix_before (both l r) others stack =
    read_postfix-postfix_before l (postfix_before r (all ∷ others)) stack
    ∙ read_postfix-postfix_before r (all ∷ others) (l ∷ stack)
read_postfix-postfix_before (either l r) others stack =
    read_postfix-postfix_before l (postfix_before r (any ∷ others)) stack
    ∙ read_postfix-postfix_before r (any ∷ others) (l ∷ stack)

pub from_postfix-postfix : (e : Expression) → from_postfix (postfix e) ≡ e
from_postfix-postfix e = ap first_or_null (read_postfix-postfix_before e [] [])

abbrev pub expression_code : Coded (List Symbol) → Coded Expression
expression_code symbols = code_by (List Symbol) symbols postfix from_postfix from_postfix-postfix
