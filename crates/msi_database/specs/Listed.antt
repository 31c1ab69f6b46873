-- Tables by their columns, as a database lists them.
use Rattle.std.specs.Prelude.{◌≡◌, ℕ, true, List, length, map, Option, Some, option_map}
use Rattle.msi_container_format.specs.Names.{is_name_length}
use Rattle.msi_base.specs.declared.codepage.CodePage.{CodePage}
use Rattle.msi_table.specs.Tables.{TableDef}
use Rattle.msi_database_schema.specs.Keys.{table_key}
use Rattle.msi_database_changes.specs.Database.{Database, table_at}
use Rattle.msi_database_storage.specs.Kept.{Kept}

-- the table of a name, and all of them in their order
abbrev pub table_def_at : List ℕ → Database → Option TableDef
table_def_at name d =
    option_map (λ t. record { name = name; columns = t.columns; long = d.pool.long }) (table_at name d)

abbrev pub tables_listed : Database → List TableDef
tables_listed d = map (λ t. record { name = t.0; columns = t.1.columns; long = d.pool.long }) d.tables

-- a kept database with another page
abbrev pub with_page : CodePage → Kept → Kept
with_page page k = record k { database = record k.database { pool = record k.database.pool { page = page } } }

-- the table of a name, as a sound database has it
pub record IsKnown (d : Database) (name : List ℕ) (t : TableDef) : Type 0 where
  pub named : t.name ≡ name
  pub listed : table_def_at t.name d ≡ Some t
  pub has_key : is_name_length (length (table_key t.name)) ≡ true
  pub long : t.long ≡ d.pool.long
