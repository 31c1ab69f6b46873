-- A row as callers see it.
use Rattle.std.specs.Prelude.{ℕ, List, Option, option_and_then, slice_get}
use Rattle.msi_table_values.specs.declared.value.Value.{Value}
use Rattle.msi_table_values.specs.Columns.{ColumnDef, column_index}
use Rattle.msi_table_values.specs.Utf8Texts.{AreUtf8Columns, AreUtf8Values}

pub record RowDef : Type 0 where
  pub columns : List ColumnDef
  pub values : List Value

-- the value of a column by its name; a repeated name means the first
abbrev pub value_named : List ℕ → RowDef → Option Value
value_named name row = option_and_then (slice_get row.values) (column_index name row.columns)

-- each text of the values and of the columns is UTF-8
abbrev pub IsUtf8Row : RowDef → Type 0
IsUtf8Row row = AreUtf8Columns row.columns × AreUtf8Values row.values
