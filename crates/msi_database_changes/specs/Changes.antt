-- A change of tables: what it leaves.
use Rattle.std.specs.Prelude.{ℕ, Bool, true, false, not, List, [], ◌∷◌, ◌++◌, Option, Some, None}
use Rattle.msi_base.specs.declared.errors.ErrorKind.TheVariants.{InvalidData, InvalidInput, NotFound}
use Rattle.msi_database_changes.specs.Texts.{PoolInUse}
use Rattle.msi_base.specs.Refusals.{Refusals}
use Rattle.msi_table_cells.specs.TableCells.{TableCells}
use Rattle.msi_table_cells.specs.declared.cell.ValueRef.{ValueRef}
use Rattle.msi_table_values.specs.Columns.{ColumnDef}
use Rattle.msi_table_cells.specs.StoredOrder.{in_stored_order}
use Rattle.msi_database_changes.specs.Database.{Database, table_at, with_table, with_places, is_sound}

-- a change of tables: the parts after it, whether a text was taken or given back, and the tables that are stored anew
pub record Change : Type 0 where
  pub database : Database
  pub is_pool_used : Bool
  pub stored : List (List ℕ)

abbrev pub no_change : Database → Change
no_change d = record { database = d; is_pool_used = false; stored = [] }

abbrev pub pool_of : Change → PoolInUse
pool_of c = record { places = c.database.pool.places; is_used = c.is_pool_used }

-- the change after a table's rows and the pool became these; the rows are given their stored order
abbrev pub with_stored : List ℕ → List ColumnDef → List (List ValueRef) → PoolInUse → Change → Change
with_stored name columns rows pool c = record {
  database = with_places pool.places
      (with_table name (record { columns = columns; rows = Some (in_stored_order columns rows) }) c.database);
  is_pool_used = pool.is_used;
  stored = c.stored ++ name ∷ [];
}

-- nothing that isn't sound is changed
abbrev pub sound_refusal : Database → Refusals
sound_refusal d = (not (is_sound d), InvalidData) ∷ []

-- what refuses a change before its table is looked for
abbrev pub barred_refusals : Database → Bool → Refusals
barred_refusals d is_barred = sound_refusal d ++ (is_barred, InvalidInput) ∷ []

-- that there is no such table, or what it refuses
abbrev pub missing_or : Option TableCells → (TableCells → Refusals) → Refusals
missing_or None refusals = (true, NotFound) ∷ []
missing_or (Some t) refusals = refusals t

-- what refuses a change of a table's rows, whatever the table has
abbrev pub absent_refusals : Database → Bool → List ℕ → Refusals
absent_refusals d is_barred name = barred_refusals d is_barred ++ missing_or (table_at name d) (λ t. [])
