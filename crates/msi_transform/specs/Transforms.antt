-- A transform: what it says of each table, and which faults of its records pass.
use Rattle.std.specs.Prelude.{ℕ, List, Option, filter, map, not}
use Rattle.std.specs.FinMap.{find}
use Rattle.msi_base.specs.Lists.{list_cmp}
use Rattle.msi_pool.specs.Pool.{Pool}
use Rattle.msi_table_cells.specs.CellValues.{value_of_cell}
use Rattle.msi_table_cells.specs.declared.cell.ValueRef.{ValueRef}
use Rattle.msi_table_values.specs.declared.value.Value.{Value}
use Rattle.msi_table_values.specs.Columns.{ColumnDef}
use Rattle.msi_transform_records.specs.declared.records.Record.{Record}
use Rattle.msi_transform_records.specs.declared.shape.Shape.{Shape}
use Rattle.msi_transform_records.specs.RecordCells.{key_of_record}
use Rattle.msi_database_schema.specs.System.{is_schema_table}
use Rattle.msi_database_storage.specs.Streams.{Streams}

-- The id of its page as it is stored, its pool, the records of each table by the table's name, in the order of names,
-- and the other streams, those that records bring among them
pub record TransformDef : Type 0 where
  pub page_id : ℕ
  pub pool : Pool
  pub tables : List (List ℕ × List ℕ)
  pub streams : Streams

-- the bytes of a table's records, if there are some
abbrev pub records_for : List ℕ → TransformDef → Option (List ℕ)
records_for name t = find list_cmp name t.tables

-- the tables that have records, but for `_Tables` and `_Columns`
abbrev pub tables_of_rows : TransformDef → List (List ℕ × List ℕ)
tables_of_rows t = filter (λ e. not (is_schema_table e.0)) t.tables

-- what a cell of a record stands for
abbrev pub value_in : TransformDef → ValueRef → Value
value_in t c = value_of_cell t.pool.places c

-- the key of the row that a record tells of
abbrev pub record_key : TransformDef → List Shape → Record → List Value
record_key t shapes r = map (value_in t) (key_of_record shapes r)

-- what a record needs to know of columns
abbrev pub shapes_of : List ColumnDef → List Shape
shapes_of columns = map (λ c. record { coltype = c.coltype; is_key = c.is_primary_key }) columns
