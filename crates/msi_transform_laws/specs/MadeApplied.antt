-- What is left of the old package once a transform that is made is applied to it: where no table has a column of
-- streams and texts are stored in UTF-8, nothing is refused.
use Rattle.std.specs.Prelude.{◌≡◌, ℕ, ◌+◌, ◌≤◌, true, false, List, length, Ok}
use Rattle.std.specs.List.{AllByRecursion}
use Rattle.msi_base.specs.declared.codepage.CodePage.TheVariants.{Utf8}
use Rattle.msi_database_storage.specs.Kept.{Kept}
use Rattle.msi_transform.specs.Transforms.{TransformDef}
use Rattle.msi_transform.specs.declared.conditions.ErrorConditions.{ErrorConditions}
use Rattle.msi_transform_rows.specs.RowStreams.{has_streams}
use Rattle.msi_transform_rows.specs.TableRecords.{changes_schema}
use Rattle.msi_transform_schema.specs.SchemaApplying.{schema_begun}
use Rattle.msi_transform_schema.specs.SchemaChanges.{SchemaInHand}
use Rattle.msi_transform_applying.specs.Applying.{Left, TableAnew, TablesChanged, TablesInHand, applied, finished}
use Rattle.msi_transform_applying.specs.Applying.{page_after, pool_left, streams_left}
use Rattle.msi_transform_making.specs.Making.{Pair, made, told_names}
use Rattle.msi_transform_laws.specs.NewTables.{AreNewTables}
use Rattle.msi_transform_laws.specs.RowsBegun.{HoldsStreams}
use Rattle.msi_transform_laws.specs.SameColumns.{PassesPage}
use Rattle.msi_transform_laws.specs.SchemaApplied.{CountsSchema}
use Rattle.msi_transform_laws.specs.SchemaMade.{TablesCanChange, cells_gone, texts_of_schema}
use Rattle.msi_transform_laws.specs.TableApplied.{CanHaveRecords}
use Rattle.msi_transform_laws.specs.TablesChanged.{cells_to_change, texts_to_come}

-- no table has a column of streams
abbrev pub HasNoStreams : Kept → Type 0
HasNoStreams k = AllByRecursion (λ e. has_streams e.1.columns ≡ false) k.database.tables

-- the pool and the streams, once the tables are stored
abbrev pub left_of : Kept → TransformDef → TablesInHand → Left
left_of k t tables = record {
  pool = pool_left k.database.pool t tables.pool;
  streams = streams_left k (pool_left k.database.pool t tables.pool).long tables;
}

-- tables without streams can be stored, where texts are written in UTF-8
abbrev pub TablesWithoutStreamsAreStored : Type 0
TablesWithoutStreamsAreStored = (k : Kept) (t : TransformDef) (changed : TablesChanged)
    → page_after k.database.pool.page t ≡ Utf8 → HasNoStreams k
    → AllByRecursion (λ (table : TableAnew). has_streams table.columns ≡ false) changed.tables.tables
    → finished k t changed ≡ Ok (left_of k t changed.tables)

-- so a transform that is made can be applied to the old package, where some table goes, comes or gets columns: what is
-- left stores the new package's columns and rows
abbrev pub MadeTransformsAreApplied : Type 0
MadeTransformsAreApplied = (p : Pair) (t : TransformDef) (passing : ErrorConditions) (others : ℕ → ℕ)
    → made p ≡ Ok t → CanHaveRecords p → TablesCanChange p → changes_schema t ≡ true
    → AllByRecursion (HoldsStreams p.old) (told_names p.new) → PassesPage p passing
    → CountsSchema (λ number. cells_gone p number + (cells_to_change p.old.database t.tables number + others number))
    (schema_begun p.old.database)
    → length p.old.database.pool.places + texts_of_schema p + texts_to_come p t.tables ≤ 16777215
    → HasNoStreams p.old → HasNoStreams p.new → page_after p.old.database.pool.page t ≡ Utf8
    → (schema : SchemaInHand) × (after : TablesInHand) × (done : List TableAnew)
    × (applied p.old p.old_page t passing ≡ Ok (left_of p.old t after))
    × AreNewTables p t passing others schema after done
