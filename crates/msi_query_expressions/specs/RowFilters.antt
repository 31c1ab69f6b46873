-- Conditions whose columns' places were looked up.
use Rattle.std.specs.Prelude.{◌≡◌, ℕ, false, List, Option}
use Rattle.std.specs.Option.{option_map_or}
use Rattle.msi_table_values.specs.declared.value.Value.{Value}
use Rattle.msi_table_values.specs.Values.{is_true}
use Rattle.msi_table_values.specs.Columns.{ColumnDef}
use Rattle.msi_query_expressions.specs.declared.expr.Tree.{Tree}
use Rattle.msi_query_expressions.specs.Expressions.{Expression}
use Rattle.msi_query_expressions.specs.Conditions.{has_sum, meets, value_at_place}
use Rattle.msi_query_expressions.specs.Trees.{tree_has_sum, tree_value}

-- on each row of the columns the tree of places counts as true where the row meets the condition
pub record StandsFor (columns : List ColumnDef) (condition : Option Expression) (tree : Tree ℕ) : Type 0 where
  pub values : (row : List Value) → is_true (tree_value (value_at_place row) tree) ≡ meets columns condition row
  pub sums : tree_has_sum tree ≡ option_map_or has_sum condition false
