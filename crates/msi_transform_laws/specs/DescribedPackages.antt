-- Packages whose `_Columns` describes the columns of their tables, as in each package that is opened.
use Rattle.std.specs.Prelude.{◌≡◌, ℕ, true, false, List, map, Ok, bytes_eq}
use Rattle.std.specs.List.{AllByRecursion}
use Rattle.msi_base.specs.Lists.{has_pair}
use Rattle.msi_database_schema.specs.System.{is_schema_table}
use Rattle.msi_database_changes.specs.Database.{has_table, is_well_formed}
use Rattle.msi_database_storage.specs.Kept.{Kept}
use Rattle.msi_transform.specs.Transforms.{TransformDef}
use Rattle.msi_transform_making.specs.Making.{Pair, columns_in_table, described_columns, made, told_names}
use Rattle.msi_transform_laws.specs.CarriedOut.{IsTellable}
use Rattle.msi_transform_laws.specs.SchemaMade.{AreDescribed, ColumnsKeepNames, NewColumnsAreDescribed}

-- the rows of `_Columns` describe the columns of each table, in their order
abbrev pub ColumnsAreDescribed : Kept → Type 0
ColumnsAreDescribed k = (name : List ℕ) → is_schema_table name ≡ false → has_table name k.database ≡ true
    → AreDescribed name 1 (described_columns k name) (columns_in_table k name)

-- Where a transform is made of two such packages, each table of the new one can have records, `_Columns` describes the
-- columns that come, the others keep their names, and no two tables have one name
pub record TablesCanHaveRecords (p : Pair) : Type 0 where
  pub apart : has_pair bytes_eq (map (λ table. table.0) p.new.database.tables) ≡ false
  pub tellable : AllByRecursion (IsTellable p.old p.new) (told_names p.new)
  pub described : AllByRecursion (NewColumnsAreDescribed p) (told_names p.new)
  pub names : AllByRecursion (ColumnsKeepNames p) (told_names p.new)

abbrev pub DescribedTablesCanHaveRecords : Type 0
DescribedTablesCanHaveRecords = (p : Pair) (t : TransformDef) → made p ≡ Ok t
    → is_well_formed p.old.database ≡ true → is_well_formed p.new.database ≡ true
    → ColumnsAreDescribed p.old → ColumnsAreDescribed p.new → TablesCanHaveRecords p
