-- A whole table as it is kept, and as queries see it.
use Rattle.std.proofs.Common.{◌≡◌, ℕ, List, Option, Some, None, Result, Ok, option_map, refl}
use Rattle.msi_base.specs.declared.errors.ErrorKind.{ErrorKind}
use Rattle.msi_base.specs.declared.errors.ErrorKind.TheVariants.{InvalidData, NotFound}
use Rattle.msi_pool.specs.Pool.{Place}
use Rattle.msi_base.specs.Refusals.{or_refused, ◌>>=◌}
use Rattle.msi_table_cells.specs.declared.cell.ValueRef.{ValueRef}
use Rattle.msi_table_values.specs.Columns.{ColumnDef}
use Rattle.msi_query.specs.Selection.{Relation}
use Rattle.msi_table_cells.specs.TableCells.{TableCells}
use Rattle.msi_query.specs.Rows.{relation_values, rows_values, table_values, tables_values, whole_table}

readable : {B : Type 0} (places : List Place) (name : List ℕ) (f : Relation → Result B ErrorKind) (columns : List ColumnDef) (rows : Option (List (List ValueRef)))
    → (or_refused InvalidData (option_map (rows_values places) rows) >>= λ rows. f (record { name = name; columns = columns; rows = rows }))
    ≡ ((or_refused InvalidData rows >>= λ rows. Ok (record { name = name; columns = columns; rows = rows })) >>= λ r. f (relation_values places r))
readable places name f columns None = refl
readable places name f columns (Some rows) = refl

found : {B : Type 0} (places : List Place) (name : List ℕ) (f : Relation → Result B ErrorKind) (found : Option TableCells)
    → (or_refused NotFound (option_map (table_values places) found) >>= λ t. or_refused InvalidData t.rows >>= λ rows. f (record { name = name; columns = t.columns; rows = rows }))
    ≡ ((or_refused NotFound found >>= λ t. or_refused InvalidData t.rows >>= λ rows. Ok (record { name = name; columns = t.columns; rows = rows })) >>= λ r. f (relation_values places r))
found places name f None = refl
found places name f (Some t) = readable places name f t.columns t.rows

-- a table as queries see it
pub table_goes_on : {B : Type 0} (places : List Place) (tables : List ℕ → Option TableCells) (name : List ℕ) (f : Relation → Result B ErrorKind)
    → (or_refused NotFound (tables_values places tables name) >>= λ t. or_refused InvalidData t.rows >>= λ rows. f (record { name = name; columns = t.columns; rows = rows }))
    ≡ (whole_table tables name >>= λ r. f (relation_values places r))
table_goes_on places tables name f = found places name f (tables name)
