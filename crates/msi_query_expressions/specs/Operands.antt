-- Operands of operators, as values.
use Rattle.std.specs.Prelude.{ℤ, Option, Some, None}
use Rattle.msi_table_values.specs.declared.value.Value.{Value}
use Rattle.msi_table_values.specs.declared.value.Value.TheVariants.{Null, Int}
use Rattle.msi_table_values.specs.Views.{seen_value}
use Rattle.msi_query_expressions.specs.declared.operands.Operand.{Operand}
use Rattle.msi_query_expressions.specs.declared.operands.Operand.TheVariants.{Borrowed, Computed}

-- the value of an operand, wherever it lies
abbrev pub operand_value : Operand → Value
operand_value (Borrowed v) = seen_value v
operand_value (Computed v) = v

-- a number where there is one, else Null
abbrev pub number_or_null : Option ℤ → Value
number_or_null None = Null
number_or_null (Some n) = Int n
