-- What an expression is worth on a row.
use Rattle.std.specs.Prelude.{ℕ, Bool, List, ◌&&◌, ◌||◌, IsTrue, unwrap_or}
use Rattle.std.specs.List.{list_all}
use Rattle.msi_table_values.specs.declared.value.Value.{Value}
use Rattle.msi_table_values.specs.declared.value.Value.TheVariants.{Null}
use Rattle.msi_table_values.specs.Values.{is_true}
use Rattle.msi_table_values.specs.Columns.{ColumnDef, has_column}
use Rattle.msi_table_values.specs.Row.{RowDef, value_named}
use Rattle.msi_query_expressions.specs.OperatorValues.{truth, unary_value, binary_value}
use Rattle.msi_query_expressions.specs.Expressions.{Expression, literal, column, unary, binary, both, either, names_in}

-- the value, where `at` gives the value of each column
abbrev pub value_of : (List ℕ → Value) → Expression → Value
value_of at (literal v) = v
value_of at (column n) = at n
value_of at (unary op e) = unary_value op (value_of at e)
value_of at (binary op l r) = binary_value op (value_of at l) (value_of at r)
value_of at (both l r) = truth (is_true (value_of at l) && is_true (value_of at r))
value_of at (either l r) = truth (is_true (value_of at l) || is_true (value_of at r))

-- the value of a column of a row; of a column that the row lacks, which no call asks for, Null
abbrev pub value_at : RowDef → List ℕ → Value
value_at row name = unwrap_or (value_named name row) Null

-- whether each name in an expression is that of a column
abbrev pub knows_names : List ColumnDef → Expression → Bool
knows_names columns e = list_all (λ name. has_column name columns) (names_in e)

-- the row has every column that the expression names
abbrev pub HasColumnsOf : RowDef → Expression → Type 0
HasColumnsOf row e = IsTrue (knows_names row.columns e)
