-- An update of a table's rows, of its parts.
use Rattle.std.specs.Prelude.{List, if◌then◌else◌}
use Rattle.msi_table_values.specs.declared.value.Value.{Value}
use Rattle.msi_table_values.specs.Columns.{ColumnDef}
use Rattle.msi_query.specs.declared.query.update.UpdateParts.{UpdateParts}
use Rattle.msi_query_expressions.specs.Conditions.{meets}
use Rattle.msi_query.specs.Queries.{UpdateQuery}
use Rattle.msi_database_changes.specs.Setting.{values_set}

-- the query of its parts
abbrev pub update_of : UpdateParts → UpdateQuery
update_of parts = record { table = parts.table; sets = parts.sets; condition = parts.condition }

-- an update, and the columns of the rows
pub record RowUpdateDef : Type 0 where
  pub columns : List ColumnDef
  pub query : UpdateQuery

-- a row's values after an update
abbrev pub row_set : RowUpdateDef → List Value → List Value
row_set u row = if meets u.columns u.query.condition row then values_set u.columns u.query.sets row else row
