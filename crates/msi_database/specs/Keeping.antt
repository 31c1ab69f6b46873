-- What every database keeps to that is kept in streams, and that each change keeps it.
use Rattle.std.specs.Prelude.{◌≡◌, ◌≤◌, ◌⊎◌, T, Bool, true, List, length, IfSome, Some}
use Rattle.std.specs.List.{AllByRecursion}
use Rattle.std.specs.FinMap.{is_sorted}
use Rattle.msi_container_format.specs.Names.{name_cmp}
use Rattle.msi_pool.specs.Pool.{Pool, CountsFit, PlacesWritten, with_named_texts}
use Rattle.msi_table.specs.Tables.{TableDef}
use Rattle.msi_table_values.specs.Columns.{types_of}
use Rattle.msi_table_cells.specs.Fitting.{FitsRow, FitsTable}
use Rattle.msi_table_cells.specs.TableCells.{TableCells}
use Rattle.msi_database_schema.specs.System.{validation_columns}
use Rattle.msi_database_changes.specs.Database.{Database, is_sound, is_well_formed}
use Rattle.msi_database_changes.specs.Changes.{Change}
use Rattle.msi_database_changes.specs.Laws.{IsChange, IsTableChange}
use Rattle.msi_database_storage.specs.Streams.{Streams}
use Rattle.msi_database_storage.specs.StreamNames.{HaveShortNames, HoldBytes}
use Rattle.msi_database_storage.specs.Kept.{Kept, kept_of, database_kept, after_change, AreAsLong, schema_listed}
use Rattle.msi_database_storage.specs.Agreement.{DatabaseIs, is_shown, schema_in}

-- a table has a column, and its rows, where they can be read, have a cell for each column, which fits it
abbrev pub HasFittingRows : Bool → TableCells → Type 0
HasFittingRows long t = IfSome t.rows (FitsTable long (types_of t.columns))

abbrev pub RowsFit : Database → Type 0
RowsFit d = AllByRecursion (λ t. HasFittingRows d.pool.long t.1) d.tables

abbrev pub UnlistedFits : Database → Type 0
UnlistedFits d = AllByRecursion (FitsRow d.pool.long (types_of validation_columns)) d.unlisted_validation

-- Every kept database, sound or not: the streams have names, in the container's order, and spell it; its tables are
-- those that the system tables describe, in the order of their names; rows fit their columns, so that cells name places
-- from 1 on; the pool has no more places than a pool can have, with counts of 16 bits. Of a sound one each free place
-- has the empty text
pub record IsKeptDatabase (k : Kept) : Type 0 where
  pub in_order : T (is_sorted name_cmp k.streams)
  pub names : HaveShortNames k.streams
  pub spelled : DatabaseIs k.streams k.database
  pub rows : RowsFit k.database
  pub unlisted : UnlistedFits k.database
  pub few : length k.database.pool.places ≤ 16777215
  pub counts : CountsFit k.database.pool.places
  pub freed : is_sound k.database ≡ true → PlacesWritten k.database.pool.places

-- the parts of a kept database: its tables' references are as long as the pool's, and whether it is sound is known
pub record AreKept (pool : Pool) (tables : List TableDef) (streams : Streams) (is_known_sound : Bool) : Type 0 where
  pub kept : IsKeptDatabase (kept_of pool tables streams)
  pub as_long : AreAsLong pool.long tables
  pub known : is_known_sound ≡ is_sound (database_kept pool tables streams)

-- A change leaves a database that is kept, and sound.
abbrev pub ChangesAreKept : Type 0
ChangesAreKept = (k : Kept) (c : Change) → IsKeptDatabase k → is_sound k.database ≡ true
    → IsChange k.database c ⊎ IsTableChange k.database c
    → IsKeptDatabase (after_change k c) × (is_sound c.database ≡ true)

-- Every kept database is well formed, sound or not.
abbrev pub KeptIsWellFormed : Type 0
KeptIsWellFormed = (k : Kept) → IsKeptDatabase k → is_well_formed k.database ≡ true

-- What is read is kept: streams of bytes under names in order; a pool that lost the texts of its free places but where
-- a cell names one; and the tables that the system tables describe
pub record IsRead (raw pool : Pool) (tables : List TableDef) (streams : Streams) : Type 0 where
  pub in_order : T (is_sorted name_cmp streams)
  pub names : HaveShortNames streams
  pub bytes : HoldBytes streams
  pub few : length raw.places ≤ 16777215
  pub counts : CountsFit raw.places
  pub places : pool.places ≡ with_named_texts (is_shown streams (database_kept pool tables streams)) raw.places
  pub as_long : AreAsLong pool.long tables
  pub schema : schema_in streams pool ≡ Some (schema_listed tables)

abbrev pub ReadIsKept : Type 0
ReadIsKept = (raw pool : Pool) (tables : List TableDef) (streams : Streams) (is_known_sound : Bool)
    → IsRead raw pool tables streams
    → is_known_sound ≡ is_sound (database_kept pool tables streams) → AreKept pool tables streams is_known_sound

-- a kept database is that of these parts, which is sound
abbrev pub AreParts : Kept → Pool → List TableDef → Streams → Type 0
AreParts k pool tables streams = (kept_of pool tables streams ≡ k) × AreKept pool tables streams true
