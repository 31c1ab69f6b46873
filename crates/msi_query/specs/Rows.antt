-- Rows of cells, and what they stand for.
use Rattle.std.specs.Prelude.{ℕ, List, [], ◌∷◌, map, Option, option_map, option_and_then, unwrap_or, slice_get}
use Rattle.std.specs.Prelude.{Result, Ok}
use Rattle.std.specs.List.{filter_map}
use Rattle.msi_base.specs.declared.errors.ErrorKind.{ErrorKind}
use Rattle.msi_base.specs.declared.errors.ErrorKind.TheVariants.{InvalidData, NotFound}
use Rattle.msi_table.specs.Pool.{Place}
use Rattle.msi_table.specs.ValueRef.{ValueRef}
use Rattle.msi_table.specs.ValueRef.TheVariants as cell
use Rattle.msi_table.specs.Value.{Value}
use Rattle.msi_table.specs.Columns.{ColumnDef, column_index}
use Rattle.msi_table.specs.CellValues.{row_values}
use Rattle.msi_base.specs.Refusals.{or_refused, ◌>>=◌}
use Rattle.msi_table.specs.TableCells.{TableCells}
use Rattle.msi_table.specs.Rows.{TableRows, cells_at}
use Rattle.msi_query.specs.Queries.{Side}
use Rattle.msi_query.specs.Selection.{Relation, TableValues}

-- a relation as it is kept
pub record RelationCells : Type 0 where
  pub name : List ℕ
  pub columns : List ColumnDef
  pub rows : List (List ValueRef)

abbrev pub rows_values : List Place → List (List ValueRef) → List (List Value)
rows_values places rows = map (row_values places) rows

abbrev pub relation_values : List Place → RelationCells → Relation
relation_values places r = record { name = r.name; columns = r.columns; rows = rows_values places r.rows }

abbrev pub table_values : List Place → TableCells → TableValues
table_values places t = record { columns = t.columns; rows = option_map (rows_values places) t.rows }

-- the tables as queries see them
abbrev pub tables_values : List Place → (List ℕ → Option TableCells) → List ℕ → Option TableValues
tables_values places tables name = option_map (table_values places) (tables name)

-- a whole table, or its refusal
abbrev pub whole_table : (List ℕ → Option TableCells) → List ℕ → Result RelationCells ErrorKind
whole_table tables name = or_refused NotFound (tables name) >>=
    λ t. or_refused InvalidData t.rows >>=
    λ rows. Ok (record { name = name; columns = t.columns; rows = rows })

-- a whole table of its columns and rows
abbrev pub cells_of : List ℕ → TableRows → RelationCells
cells_of name t = record { name = name; columns = t.columns; rows = t.rows }

-- a whole table of a product, under the name that its columns go by
abbrev pub side_cells : (List ℕ → Option TableCells) → Side → Result RelationCells ErrorKind
side_cells tables side = whole_table tables side.table >>= λ r. Ok (record r { name = side.name })

-- each of them, or the first refusal
abbrev pub sides_cells : (List ℕ → Option TableCells) → List Side → Result (List RelationCells) ErrorKind
sides_cells tables [] = Ok []
sides_cells tables (side ∷ sides) = side_cells tables side >>= λ r. sides_cells tables sides >>= λ rs. Ok (r ∷ rs)

-- the columns of a table that can be read, or its refusal
abbrev pub columns_read : (List ℕ → Option TableCells) → List ℕ → Result (List ColumnDef) ErrorKind
columns_read tables name = or_refused NotFound (tables name) >>=
    λ t. or_refused InvalidData t.rows >>=
    λ rows. Ok t.columns

-- the column at a place, if any
abbrev pub column_at : List ColumnDef → Option ℕ → Option ColumnDef
column_at columns place = option_and_then (slice_get columns) place

-- the columns of the names, with their cells
abbrev pub projected_cells : List (List ℕ) → List ColumnDef → List (List ValueRef) → RelationCells
projected_cells names columns rows = let places = map (λ name. column_index name columns) names in
    record { name = []; columns = filter_map (column_at columns) places; rows = map (cells_at places) rows }
