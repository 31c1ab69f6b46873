-- A database as it is kept: tables by their columns, and their rows in the streams of a container.
use Rattle.std.specs.Prelude.{◌≡◌, ℕ, Bool, not, List, [], ◌∷◌, map, filter, Option, Some, None, is_some, unwrap_or}
use Rattle.std.specs.Prelude.{if◌then◌else◌, bytes_eq, ◌&&◌}
use Rattle.std.specs.List.{AllByRecursion}
use Rattle.std.specs.Ordering.{is_lt}
use Rattle.msi_base.specs.Lists.{list_cmp}
use Rattle.msi_pool.specs.Pool.{Pool}
use Rattle.msi_table_cells.specs.declared.cell.ValueRef.{ValueRef}
use Rattle.msi_table_values.specs.Columns.{ColumnDef}
use Rattle.msi_table.specs.Tables.{TableDef}
use Rattle.msi_table_cells.specs.TableCells.{TableCells}
use Rattle.msi_database_schema.specs.System.{validation_name, validation_columns}
use Rattle.msi_database_changes.specs.Database.{Database}
use Rattle.msi_database_changes.specs.Changes.{Change}
use Rattle.msi_database_changes.specs.Widening.{widened}
use Rattle.msi_database_storage.specs.Widening.{streams_widened}
use Rattle.msi_database_storage.specs.Streams.{Streams, stored_rows, stored_streams}

abbrev pub table_kept : Streams → Bool → TableDef → List ℕ × TableCells
table_kept streams long t = (t.name, record { columns = t.columns; rows = stored_rows streams long t.columns t.name })

-- the table of a name among those that are kept
abbrev pub table_kept_at : List ℕ → List TableDef → Option TableDef
table_kept_at name [] = None
table_kept_at name (t ∷ ts) = if bytes_eq name t.name then Some t else table_kept_at name ts

-- the rows of the stream of `_Validation` where that is no table
abbrev pub unlisted_kept : Streams → Bool → List TableDef → List (List ValueRef)
unlisted_kept streams long tables = if is_some (table_kept_at validation_name tables) then []
    else unwrap_or (stored_rows streams long validation_columns validation_name) []

abbrev pub database_kept : Pool → List TableDef → Streams → Database
database_kept pool tables streams = record {
  pool = pool;
  tables = map (table_kept streams pool.long) tables;
  unlisted_validation = unlisted_kept streams pool.long tables;
}

-- the database, and all streams that are kept, those of tables among them
pub record Kept : Type 0 where
  pub database : Database
  pub streams : Streams

abbrev pub kept_of : Pool → List TableDef → Streams → Kept
kept_of pool tables streams = record { database = database_kept pool tables streams; streams = streams }

-- the same database with references of three bytes: its tables' streams are spelled anew
abbrev pub kept_widened : Kept → Kept
kept_widened k = record { database = widened k.database; streams = streams_widened k.database k.streams }

-- the database over which a change is put: with wider references where the change has them
abbrev pub base_of : Kept → Change → Kept
base_of k c = if c.database.pool.long && not k.database.pool.long then kept_widened k else k

-- what a change leaves
abbrev pub with_change : Kept → Change → Kept
with_change base c = record { database = c.database; streams = stored_streams c.database c.stored base.streams }

abbrev pub after_change : Kept → Change → Kept
after_change k c = with_change (base_of k c) c

-- the tables with one put in, in the order of names, and without the one of a name
abbrev pub with_table_kept : TableDef → List TableDef → List TableDef
with_table_kept t [] = t ∷ []
with_table_kept t (u ∷ us) = if is_lt (list_cmp u.name t.name) then u ∷ with_table_kept t us else t ∷ u ∷ us

abbrev pub without_table_kept : List ℕ → List TableDef → List TableDef
without_table_kept name tables = filter (λ t. not (bytes_eq name t.name)) tables

-- each table's references are as long as the pool's
abbrev pub AreAsLong : Bool → List TableDef → Type 0
AreAsLong long tables = AllByRecursion (λ t. t.long ≡ long) tables

-- each table's columns
abbrev pub schema_listed : List TableDef → List (List ℕ × List ColumnDef)
schema_listed tables = map (λ t. (t.name, t.columns)) tables
