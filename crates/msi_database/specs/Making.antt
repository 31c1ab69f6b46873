-- What a change makes of a kept database: the database that it leaves, and the parts in which that is kept.
use Rattle.std.specs.Prelude.{◌≡◌, ◌≤◌, ℕ, Bool, true, List, [], ◌∷◌, length, Option, Some, None, unwrap_or}
use Rattle.std.specs.Prelude.{if◌then◌else◌, Result, Ok, Err}
use Rattle.msi_base.specs.declared.errors.ErrorKind.{ErrorKind}
use Rattle.msi_pool.specs.FirstFit.{most_places}
use Rattle.msi_pool.specs.Pool.{Pool}
use Rattle.msi_table_cells.specs.declared.cell.ValueRef.{ValueRef}
use Rattle.msi_table_values.specs.Columns.{ColumnDef}
use Rattle.msi_table.specs.Tables.{TableDef}
use Rattle.msi_query.specs.declared.query.insert.InsertParts.{InsertParts}
use Rattle.msi_query.specs.declared.query.delete.DeleteParts.{DeleteParts}
use Rattle.msi_query.specs.Queries.{InsertQuery, DeleteQuery}
use Rattle.msi_database_changes.specs.Database.{Database, is_sound}
use Rattle.msi_database_schema.specs.Keys.{table_key}
use Rattle.msi_database_changes.specs.Texts.{UsedPool, in_use, settled, widens}
use Rattle.msi_database_changes.specs.Changes.{Change, no_change, with_stored}
use Rattle.msi_database_changes.specs.Widening.{widened}
use Rattle.msi_database_changes.specs.declared.storing.Stored.{Stored}
use Rattle.msi_database_storage.specs.Storing.{stored_in}
use Rattle.msi_database_storage.specs.Streams.{stream_of_rows}
use Rattle.msi_database_storage.specs.Kept.{Kept, after_change, base_of, kept_widened}
use Rattle.msi_database.specs.Keeping.{AreParts}
use Rattle.msi_database.specs.Listed.{tables_listed}

-- what an accepted change leaves
abbrev pub Leaves : Kept → Result Change ErrorKind → Kept → Type 0
Leaves old (Ok c) new = new ≡ after_change old c
Leaves old (Err kind) new = ⊥

-- an accepted change is made over a sound base by this pool, these tables and these streams: over the old database, or
-- over that with wider references
abbrev pub Makes : Kept → Result Change ErrorKind → Kept → Pool → List TableDef → List Stored → Type 0
Makes old (Ok c) base pool tables stored = (base ≡ base_of old c)
    × AreParts (after_change old c) pool tables (stored_in stored base.streams) × (is_sound base.database ≡ true)
Makes old (Err kind) base pool tables stored = ⊥

-- a change of one table's rows: the tables stay
abbrev pub MakesRows : Kept → Result Change ErrorKind → Kept → Pool → Stored → Type 0
MakesRows old change base pool stored = Makes old change base pool (tables_listed base.database) (stored ∷ [])

-- the old database, or the wider one that was made beside it
abbrev pub base_with : Option Kept → Kept → Kept
base_with wide old = unwrap_or wide old

-- the wider one, where the places of the pool in use need it
abbrev pub wide_for : UsedPool → Kept → Option Kept
wide_for used old = if widens used.pool then Some (kept_widened old) else None

-- what the rows of a table become by a change: it is made so with references of three bytes, and with those that there
-- are where they suffice
pub record RowsBecome (change : Database → Result Change ErrorKind) (d : Database) (name : List ℕ)
    (columns : List ColumnDef) (rows : List (List ValueRef)) (used : UsedPool) : Type 0 where
  pub page : used.pool.page ≡ d.pool.page
  pub long : used.pool.long ≡ d.pool.long
  pub wide : change (widened d) ≡ Ok (with_stored name columns rows (in_use used) (no_change (widened d)))
  pub same : length used.pool.places ≤ most_places d.pool.long
      → change d ≡ Ok (with_stored name columns rows (in_use used) (no_change d))

-- what a change of a table's rows stores: over which database, under which name, which bytes, and the pool after it
pub record IsAnew (old : Kept) (t : TableDef) (rows : List (List ValueRef)) (used : UsedPool)
    (wide : Option Kept) (stream : Stored) (new : Pool) (is_pool_used : Bool) : Type 0 where
  pub base : wide ≡ wide_for used old
  pub name : stream.name ≡ table_key t.name
  pub bytes : stream.bytes ≡ stream_of_rows (settled used.pool).long t.columns rows
  pub pool : new ≡ settled used.pool
  pub uses : is_pool_used ≡ used.is_used

-- an accepted change answers whether a text was taken or given back
abbrev pub TellsUse : Result Change ErrorKind → Bool → Type 0
TellsUse (Ok c) used = used ≡ c.is_pool_used
TellsUse (Err kind) used = ⊥

-- the queries of their parts
abbrev pub insert_of : InsertParts → InsertQuery
insert_of parts = record { table = parts.table; columns = parts.columns; rows = parts.rows }

abbrev pub delete_of : DeleteParts → DeleteQuery
delete_of parts = record { table = parts.table; condition = parts.condition }
