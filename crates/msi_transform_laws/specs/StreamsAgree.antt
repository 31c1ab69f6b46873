-- The streams of rows once a transform that is made is applied to the old package: each row has the stream that it is
-- to have, also where the streams of several rows have one name.
use Rattle.std.specs.Prelude.{◌≡◌, ℕ, ◌+◌, ◌≤◌, Bool, true, false, List, length, map, Ok, bytes_eq}
use Rattle.std.specs.List.{AllByRecursion}
use Rattle.msi_base.specs.Lists.{has_pair}
use Rattle.msi_pool.specs.Pool.{HaveUtf8Texts}
use Rattle.msi_database_schema.specs.System.{is_schema_table}
use Rattle.msi_database_storage.specs.Kept.{Kept}
use Rattle.msi_transform.specs.Transforms.{TransformDef}
use Rattle.msi_transform.specs.declared.conditions.ErrorConditions.{ErrorConditions}
use Rattle.msi_transform_rows.specs.RowStreams.{has_streams}
use Rattle.msi_transform_rows.specs.TableRecords.{changes_schema}
use Rattle.msi_transform_schema.specs.SchemaApplying.{schema_begun}
use Rattle.msi_transform_applying.specs.Applying.{TablesChanged, change_with, streams_agree, tables_changed}
use Rattle.msi_transform_making.specs.Making.{Pair, columns_in_table, made, told_names}
use Rattle.msi_transform_laws.specs.RowsBegun.{HoldsStreams}
use Rattle.msi_transform_laws.specs.SameColumns.{HaveSameColumns, PassesPage}
use Rattle.msi_transform_laws.specs.SchemaApplied.{CountsSchema}
use Rattle.msi_transform_laws.specs.SchemaMade.{TablesCanChange, cells_gone, texts_of_schema}
use Rattle.msi_transform_laws.specs.TableApplied.{CanHaveRecords}
use Rattle.msi_transform_laws.specs.TablesChanged.{CountsCellsOf, cells_to_change, texts_to_come}

-- `_Tables` and `_Columns` have no column of streams
abbrev pub HasPlainLists : Kept → Type 0
HasPlainLists k = (name : List ℕ) → is_schema_table name ≡ true → has_streams (columns_in_table k name) ≡ false

-- What has to hold of two packages so that a stream's name tells whose it is, as it does of each package that is
-- opened: their texts are UTF-8, no two tables of the old one have one name, and their lists have no streams
pub record CanNameStreams (p : Pair) : Type 0 where
  pub texts : HaveUtf8Texts p.old.database.pool.places
  pub texts_too : HaveUtf8Texts p.new.database.pool.places
  pub apart : has_pair bytes_eq (map (λ table. table.0) p.old.database.tables) ≡ false
  pub lists : HasPlainLists p.old
  pub lists_too : HasPlainLists p.new

-- where the records are applied, no two rows want different streams under one name
abbrev pub StreamsAgree : Pair → TransformDef → ErrorConditions → Type 0
StreamsAgree p t passing = (changed : TablesChanged) (long : Bool)
    → tables_changed (change_with p.old t passing) p.old_page ≡ Ok changed
    → streams_agree p.old t changed.told changed.tables long ≡ true

-- so it is where some table goes, comes or gets columns
abbrev pub MadeStreamsAgree : Type 0
MadeStreamsAgree = (p : Pair) (t : TransformDef) (passing : ErrorConditions) (others : ℕ → ℕ)
    → made p ≡ Ok t → CanHaveRecords p → TablesCanChange p → changes_schema t ≡ true
    → AllByRecursion (HoldsStreams p.old) (told_names p.new) → PassesPage p passing
    → CountsSchema (λ number. cells_gone p number + (cells_to_change p.old.database t.tables number + others number))
    (schema_begun p.old.database)
    → length p.old.database.pool.places + texts_of_schema p + texts_to_come p t.tables ≤ 16777215
    → CanNameStreams p → StreamsAgree p t passing

-- and where the tables have the same columns
abbrev pub SameColumnsStreamsAgree : Type 0
SameColumnsStreamsAgree = (p : Pair) (t : TransformDef) (passing : ErrorConditions) (others : ℕ → ℕ)
    → made p ≡ Ok t → CanHaveRecords p → HaveSameColumns p → changes_schema t ≡ false → PassesPage p passing
    → CountsCellsOf (cells_to_change p.old.database t.tables) others p.old.database.pool.places
    → length p.old.database.pool.places + texts_to_come p t.tables ≤ 16777215
    → CanNameStreams p → StreamsAgree p t passing
