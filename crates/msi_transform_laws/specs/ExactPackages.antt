-- Packages whose `_Tables` and `_Columns` speak of their tables alone, and whose pool counts the cells exactly.
use Rattle.std.specs.Prelude.{◌≡◌, ℕ, ◌<◌, ◌≤◌, pos, true, false, List, [], ◌∷◌, length}
use Rattle.std.specs.List.{AllByRecursion, list_any}
use Rattle.msi_base.specs.declared.codepage.CodePage.TheVariants.{Utf8}
use Rattle.msi_pool.specs.Pool.{HaveUtf8Texts}
use Rattle.msi_table_values.specs.declared.value.Value.{Value}
use Rattle.msi_table_values.specs.declared.value.Value.TheVariants.{Int, Str}
use Rattle.msi_database_schema.specs.System.{columns_columns, columns_name, is_schema_table, tables_columns}
use Rattle.msi_database_schema.specs.System.{tables_name}
use Rattle.msi_database_changes.specs.Database.{CountsAreExact, has_table, is_sound, is_well_formed}
use Rattle.msi_database_storage.specs.Kept.{Kept}
use Rattle.msi_transform_schema.specs.SchemaApplying.{have_own_keys, system_rows}
use Rattle.msi_transform_making.specs.Making.{columns_in_table, same_row, told_names, values_in_table}
use Rattle.msi_transform_laws.specs.DescribedPackages.{ColumnsAreDescribed}
use Rattle.msi_transform_laws.specs.RowsBegun.{HoldsStreams}

-- a row of `_Tables` names a table of the package, other than `_Tables` and `_Columns`
pub record NamesTable (k : Kept) (row : List Value) : Type 0 where
  pub name : List ℕ
  pub row_is : row ≡ Str name ∷ []
  pub there : has_table name k.database ≡ true
  pub plain : is_schema_table name ≡ false

-- and a row of `_Columns` is one of the columns of such a table, by its number
pub record NamesColumn (k : Kept) (row : List Value) : Type 0 where
  pub table : List ℕ
  pub number : ℕ
  pub name : Value
  pub bits : Value
  pub row_is : row ≡ Str table ∷ Int (pos number) ∷ name ∷ bits ∷ []
  pub there : has_table table k.database ≡ true
  pub plain : is_schema_table table ≡ false
  pub from_one : 0 < number
  pub within : number ≤ length (columns_in_table k table)

-- each table is listed
abbrev pub IsListed : Kept → List ℕ → Type 0
IsListed k name = list_any (same_row (Str name ∷ [])) (values_in_table k tables_name) ≡ true

-- A package in order: it has `_Tables` and `_Columns`, which list its tables and describe their columns, each once, and
-- nothing else; no cell of a column of streams is null; and its texts are UTF-8
pub record IsInOrder (k : Kept) : Type 0 where
  pub well_formed : is_well_formed k.database ≡ true
  pub sound : is_sound k.database ≡ true
  pub has_tables : has_table tables_name k.database ≡ true
  pub has_columns : has_table columns_name k.database ≡ true
  pub tables_are : columns_in_table k tables_name ≡ tables_columns
  pub columns_are : columns_in_table k columns_name ≡ columns_columns
  pub own_tables : have_own_keys k.database.pool.places tables_columns (system_rows k.database tables_name) ≡ true
  pub own_columns : have_own_keys k.database.pool.places columns_columns (system_rows k.database columns_name) ≡ true
  pub tables : AllByRecursion (NamesTable k) (values_in_table k tables_name)
  pub columns : AllByRecursion (NamesColumn k) (values_in_table k columns_name)
  pub listed : AllByRecursion (IsListed k) (told_names k)
  pub described : ColumnsAreDescribed k
  pub unlisted : k.database.unlisted_validation ≡ []
  pub streams : AllByRecursion (HoldsStreams k) (told_names k)
  pub texts : HaveUtf8Texts k.database.pool.places

-- and each place counts the cells that name it
pub record IsExact (k : Kept) : Type 0 where
  pub order : IsInOrder k
  pub counts : CountsAreExact k.database

-- a neutral pool, whose page has the id 0, is read as UTF-8
abbrev pub NeutralIsUtf8 : ℕ → Kept → Type 0
NeutralIsUtf8 page_id k = page_id ≡ 0 → k.database.pool.page ≡ Utf8
