-- Expressions whose texts are UTF-8, as every `Text` is.
use Rattle.std.specs.Prelude.{IsUtf8}
use Rattle.msi_table_values.specs.Utf8Texts.{IsUtf8Value}
use Rattle.msi_query_expressions.specs.Expressions.{Expression, literal, column, unary, binary, both, either}

-- the names of its columns, and its literals
abbrev pub IsUtf8Expression : Expression → Type 0
IsUtf8Expression (literal v) = IsUtf8Value v
IsUtf8Expression (column n) = IsUtf8 n
IsUtf8Expression (unary op e) = IsUtf8Expression e
IsUtf8Expression (binary op l r) = IsUtf8Expression l × IsUtf8Expression r
IsUtf8Expression (both l r) = IsUtf8Expression l × IsUtf8Expression r
IsUtf8Expression (either l r) = IsUtf8Expression l × IsUtf8Expression r
