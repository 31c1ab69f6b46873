-- Conditions on rows, and what takes memory to evaluate.
use Rattle.std.specs.Prelude.{ℕ, Bool, true, false, List, ◌||◌, Option, Some, None, option_and_then, unwrap_or}
use Rattle.std.specs.Prelude.{slice_get}
use Rattle.msi_table_values.specs.declared.value.Value.{Value}
use Rattle.msi_table_values.specs.declared.value.Value.TheVariants.{Null}
use Rattle.msi_table_values.specs.Values.{is_true}
use Rattle.msi_table_values.specs.Columns.{ColumnDef, column_index}
use Rattle.msi_query_expressions.specs.OperatorValues.{is_sum}
use Rattle.msi_query_expressions.specs.Expressions.{Expression, literal, column, unary, binary, both, either}
use Rattle.msi_query_expressions.specs.Evaluation.{value_of}

-- the value at a place of a row; Null past its end
abbrev pub value_at_place : List Value → ℕ → Value
value_at_place row place = unwrap_or (slice_get row place) Null

-- the value of a column, by its name, in a row of values of the columns; Null where there is no such column
abbrev pub value_in : List ColumnDef → List Value → List ℕ → Value
value_in columns row name = unwrap_or (option_and_then (slice_get row) (column_index name columns)) Null

-- whether a row of values of the columns meets a condition: where there is none each does, else those for which its
-- value counts as true
abbrev pub meets : List ColumnDef → Option Expression → List Value → Bool
meets columns None row = true
meets columns (Some condition) row = is_true (value_of (value_in columns row) condition)

-- a condition on rows of values of the columns, if any
pub record RowFilterDef : Type 0 where
  pub columns : List ColumnDef
  pub condition : Option Expression

-- whether something is added in an expression, which may take memory
abbrev pub has_sum : Expression → Bool
has_sum (literal v) = false
has_sum (column n) = false
has_sum (unary op e) = has_sum e
has_sum (binary op l r) = is_sum op || has_sum l || has_sum r
has_sum (both l r) = has_sum l || has_sum r
has_sum (either l r) = has_sum l || has_sum r
