-- The rows of `_Columns` that describe a table.
use Rattle.std.proofs.Common.{ℕ, List, map}
use Rattle.std.specs.Prelude.{filter}
use Rattle.std.specs.Ordering.{eq_by_cmp}
use Rattle.msi_table_values.specs.Values.{value_cmp}
use Rattle.msi_table_values.specs.declared.value.Value.{Value}
use Rattle.msi_table_values.specs.declared.value.Value.TheVariants.{Str}
use Rattle.msi_database_schema.specs.Schema.{value_at}
use Rattle.msi_transform_pair.specs.Pair.{ToldRows}

abbrev pub rows_named : List ℕ → ToldRows → List (List Value)
rows_named name rows = filter (λ row. eq_by_cmp value_cmp (value_at 0 row) (Str name)) (map (λ e. e.1.values) rows)
