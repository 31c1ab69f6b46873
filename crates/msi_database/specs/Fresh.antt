-- A new database: `_Validation`, described by itself.
use Rattle.std.specs.Prelude.{◌≡◌, true, false, List, [], ◌∷◌, Some, unwrap_or}
use Rattle.msi_base.specs.declared.codepage.CodePage.TheVariants as page
use Rattle.msi_table_values.specs.Columns.{ColumnDef}
use Rattle.msi_table_cells.specs.TableCells.{TableCells}
use Rattle.msi_database_schema.specs.System.{columns_columns, columns_name, tables_columns, tables_name}
use Rattle.msi_database_schema.specs.System.{validation_columns, validation_name}
use Rattle.msi_database_changes.specs.Database.{CountsAreExact, Database, is_sound}
use Rattle.msi_database_changes.specs.Changes.{Change, no_change}
use Rattle.msi_database_changes.specs.Create.{described_by_rows}
use Rattle.msi_database_storage.specs.Streams.{stored_streams}
use Rattle.msi_database_storage.specs.Kept.{Kept}
use Rattle.msi_database.specs.Keeping.{IsKeptDatabase}

abbrev pub empty_table : List ColumnDef → TableCells
empty_table columns = record { columns = columns; rows = Some [] }

-- before any row, with an empty pool
abbrev pub bare_database : Database
bare_database = record {
  pool = record { page = page.Utf8; long = false; places = [] };
  tables = (columns_name, empty_table columns_columns)
      ∷ (tables_name, empty_table tables_columns)
      ∷ (validation_name, empty_table validation_columns) ∷ [];
  unlisted_validation = [];
}

abbrev pub fresh_change : Change
fresh_change = unwrap_or (described_by_rows validation_name validation_columns (no_change bare_database))
    (no_change bare_database)

abbrev pub fresh : Kept
fresh = record {
  database = fresh_change.database;
  streams = stored_streams fresh_change.database fresh_change.stored [];
}

-- It is kept and sound, and its counts are exact.
pub record FreshIsKept : Type 0 where
  pub kept : IsKeptDatabase fresh
  pub sound : is_sound fresh.database ≡ true
  pub counts : CountsAreExact fresh.database
