-- How expressions print: the loosest operators have level 1, what needs no brackets level 10.
use Rattle.std.specs.Prelude.{ℕ, List, Option, Some, nat_lt, if◌then◌else◌, codes}
use Rattle.std.specs.Fmt.{◌++?◌}
use Rattle.msi_table_values.specs.Values.{value_text}
use Rattle.msi_query_tokens.specs.Names.{name_text}
use Rattle.msi_query_expressions.specs.OperatorTexts.{op_level, op_text, right_level, unary_text}
use Rattle.msi_query_expressions.specs.Expressions.{Expression, literal, column, unary, binary, both, either}

abbrev pub level : Expression → ℕ
level (either l r) = 1
level (both l r) = 2
level (binary op l r) = op_level op
level _ = 10

-- an operand of a lower level than is needed stands in brackets
abbrev pub bracketed : ℕ → ℕ → Option (List ℕ) → Option (List ℕ)
bracketed needed has text = if nat_lt has needed then Some (codes "(") ++? text ++? Some (codes ")") else text

-- the text; none where a literal text is not ASCII
abbrev pub expression_text : Expression → Option (List ℕ)
expression_text (literal v) = value_text v
expression_text (column n) = Some (name_text n)
expression_text (unary op e) = Some (unary_text op) ++? bracketed 10 (level e) (expression_text e)
expression_text (binary op l r) = bracketed (op_level op) (level l) (expression_text l)
    ++? Some (op_text op) ++? bracketed (right_level op) (level r) (expression_text r)
expression_text (both l r) =
    bracketed 2 (level l) (expression_text l) ++? Some (codes " AND ") ++? bracketed 3 (level r) (expression_text r)
expression_text (either l r) =
    bracketed 1 (level l) (expression_text l) ++? Some (codes " OR ") ++? bracketed 2 (level r) (expression_text r)
