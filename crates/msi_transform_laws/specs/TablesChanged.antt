-- The tables of the old package changed in turn by a transform that is made of it: the rows of each become those of the
-- new package.
use Rattle.std.specs.Prelude.{◌≡◌, ℕ, ◌+◌, ◌<◌, ◌≤◌, false, not, List, [], ◌∷◌, ◌++◌, map, filter, length, count_by}
use Rattle.std.specs.Prelude.{◌==◌, if◌then◌else◌, Ok}
use Rattle.std.specs.List.{AllByRecursion}
use Rattle.msi_pool.specs.Pool.{Place}
use Rattle.msi_pool.specs.FirstFitLaws.{count_at, text_at}
use Rattle.msi_table.specs.Census.{numbers_of_rows}
use Rattle.msi_database_schema.specs.System.{is_schema_table}
use Rattle.msi_database_changes.specs.Database.{Database}
use Rattle.msi_transform.specs.Transforms.{TransformDef, shapes_of}
use Rattle.msi_transform.specs.declared.conditions.ErrorConditions.{ErrorConditions}
use Rattle.msi_transform_schema.specs.SchemaApplying.{system_rows}
use Rattle.msi_transform_schema.specs.SchemaChanges.{TablesTold, table_in_hand}
use Rattle.msi_transform_applying.specs.Applying.{TableAnew, TablesInHand, change_with, tables_in_turn}
use Rattle.msi_transform_making.specs.Making.{Pair, columns_in_table, made, records_of_table, told_rows}
use Rattle.msi_transform_laws.specs.RowsApplied.{HaveValuesOf, cells_naming, texts_of}
use Rattle.msi_transform_laws.specs.RowsBegun.{HasNewColumns, HoldsStreams, TextsOfTableStay}
use Rattle.msi_transform_laws.specs.TableApplied.{CanHaveRecords, table_change}

-- a table of a transform, by its name and the bytes of its records; `_Tables` and `_Columns` aren't changed here
abbrev pub TableOfRecords : Type 0
TableOfRecords = List ℕ × List ℕ

-- how many cells of the old package's rows of these tables name a place
abbrev pub cells_to_change : Database → List TableOfRecords → ℕ → ℕ
cells_to_change d [] number = 0
cells_to_change d (e ∷ es) number = (if is_schema_table e.0 then 0
    else count_by (λ n. n == number) (numbers_of_rows (system_rows d e.0))) + cells_to_change d es number

-- how many texts their records have
abbrev pub texts_to_come : Pair → List TableOfRecords → ℕ
texts_to_come p [] = 0
texts_to_come p (e ∷ es) =
    (if is_schema_table e.0 then 0 else texts_of (records_of_table p.old p.new e.0)) + texts_to_come p es

-- a table that is changed has its new columns, and its rows are still those of the old package
abbrev pub IsReady : Pair → TablesTold → TablesInHand → TableOfRecords → Type 0
IsReady p known s e = is_schema_table e.0 ≡ false
    → HasNewColumns p.old p.new e.0 (table_in_hand p.old.database known e.0) × HoldsStreams p.old e.0
    × TextsOfTableStay p.old e.0 s

-- each place counts so many cells, beside others
pub record CountsCellsOf (cells others : ℕ → ℕ) (places : List Place) : Type 0 where
  pub counts : (number : ℕ) → 0 < number → count_at places number ≡ cells number + others number
  pub from_one : cells 0 + others 0 ≡ 0

-- a table that is stored anew has the types of the new package's columns, and its rows
abbrev pub HasNewRows : Pair → TransformDef → ErrorConditions → List Place → TableAnew → Type 0
HasNewRows p t passing places table = (shapes_of table.columns ≡ shapes_of (columns_in_table p.new table.name))
    × HaveValuesOf p.old.streams (table_change table.name table.columns t passing) places table.rows
    (told_rows p.new table.name 0)

-- how many cells of tables that are stored anew name a place
abbrev pub cells_anew : List TableAnew → ℕ → ℕ
cells_anew [] number = 0
cells_anew (table ∷ tables) number = cells_naming table.rows number + cells_anew tables number

-- what changing these tables leaves: each is stored anew with the new package's rows, the pool counts their cells, and
-- the texts of other cells stay
pub record AreChanged (p : Pair) (t : TransformDef) (passing : ErrorConditions) (others : ℕ → ℕ)
    (es : List TableOfRecords) (before after : TablesInHand) (done : List TableAnew) : Type 0 where
  pub tables : after.tables ≡ before.tables ++ done
  pub names : map (λ (table : TableAnew). table.name) done
      ≡ filter (λ name. not (is_schema_table name)) (map (λ e. e.0) es)
  pub rows : AllByRecursion (HasNewRows p t passing after.pool.places) done
  pub counted : CountsCellsOf (cells_anew done) others after.pool.places
  pub kept : (number : ℕ) → 0 < others number → text_at after.pool.places number ≡ text_at before.pool.places number
  pub longer : length after.pool.places ≤ length before.pool.places + texts_to_come p es

-- so it is of the tables of a transform that is made
abbrev pub MadeTablesAreChangedInTurn : Type 0
MadeTablesAreChangedInTurn = (p : Pair) (t : TransformDef) (known : TablesTold) (passing : ErrorConditions)
    (others : ℕ → ℕ) (before : TablesInHand) (number : ℕ) → made p ≡ Ok t → CanHaveRecords p
    → AllByRecursion (IsReady p known before) t.tables
    → CountsCellsOf (cells_to_change p.old.database t.tables) others before.pool.places
    → length before.pool.places + texts_to_come p t.tables ≤ 16777215
    → (after : TablesInHand) × (done : List TableAnew)
    × (tables_in_turn (change_with p.old t passing) known number before t.tables ≡ Ok after)
    × AreChanged p t passing others t.tables before after done
