-- The types of columns, in order.
use Rattle.std.proofs.Common.{◌≡◌, ℕ, ◌<◌, List, length, sym, ◌∙◌, arith}
use Rattle.std.specs.Prelude.{slice_index_or}
use Rattle.std.proofs.lemmas.List as lists
use Rattle.msi_table_values.specs.declared.column.ColumnType.{ColumnType}
use Rattle.msi_table_values.specs.declared.column.ColumnType.TheVariants as coltype
use Rattle.msi_table_values.specs.Columns.{ColumnDef, types_of}

pub length-types_of : (columns : List ColumnDef) → length (types_of columns) ≡ length columns
length-types_of columns = lists.length-map columns (λ c. c.coltype)

pub below_types : (columns : List ColumnDef) (j : ℕ) → j < length columns → j < length (types_of columns)
below_types columns j h = omega (arith, length-types_of columns)

-- a column's type stands where the column does
pub type_at : (columns : List ColumnDef) (j : ℕ) (type : ColumnType) (d : ColumnDef) → j < length columns → type ≡ (slice_index_or columns j d).coltype → type ≡ slice_index_or (types_of columns) j coltype.Int16
type_at columns j type d h e = e ∙ sym (lists.get_or-map (λ c. c.coltype) columns j d coltype.Int16 h)
