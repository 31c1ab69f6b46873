-- Rows that two packages have alike, and that are left out before their records are made.
use Rattle.std.specs.Prelude.{◌≡◌, ℕ, ◌<◌, ⊤, false, List, [], ◌∷◌, get_or, length, map, true}
use Rattle.msi_database_storage.specs.Kept.{Kept}
use Rattle.msi_pool.specs.Pool.{Place}
use Rattle.msi_pool.specs.FirstFitLaws.{text_at}
use Rattle.msi_table_cells.specs.CellValues.{row_values, value_of_cell}
use Rattle.msi_table_cells.specs.declared.cell.ValueRef.{ValueRef}
use Rattle.msi_table_values.specs.Columns.{ColumnDef}
use Rattle.msi_table_values.specs.declared.value.Value.{Value}
use Rattle.msi_transform_rows.specs.RowStreams.{is_of_streams}
use Rattle.msi_transform_schema.specs.SchemaApplying.{have_own_keys, system_rows}
use Rattle.msi_transform_making.specs.Making.{columns_in_table, is_odd_table}

abbrev pub Values : Type 0
Values = List (List Value)

-- what is left of old and of new rows after pairs of the same rows were left out
pub data AreLeft : Values → Values → Values → Values → Type 0 where
  nothing : AreLeft [] [] [] []
  pair : (row : List Value) {old new left others : Values} → AreLeft old new left others
      → AreLeft (row ∷ old) (row ∷ new) left others
  of_old : (row : List Value) {old new left others : Values} → AreLeft old new left others
      → AreLeft (row ∷ old) new (row ∷ left) others
  of_new : (row : List Value) {old new left others : Values} → AreLeft old new left others
      → AreLeft old (row ∷ new) left (row ∷ others)

-- tables whose rows are told alike: as many columns without streams, and the same of them are of the key
abbrev pub AreToldAlike : List ColumnDef → List ColumnDef → Type 0
AreToldAlike [] [] = ⊤
AreToldAlike [] (d ∷ ds) = ⊥
AreToldAlike (c ∷ cs) [] = ⊥
AreToldAlike (c ∷ cs) (d ∷ ds) = (c.is_primary_key ≡ d.is_primary_key) × (is_of_streams c.coltype ≡ false)
    × (is_of_streams d.coltype ≡ false) × AreToldAlike cs ds

-- the number in a pool of each text of another, by its own number; 0 where none was found, and at 0
abbrev pub AreSameTexts : List Place → List Place → List ℕ → Type 0
AreSameTexts old new numbers =
    (k : ℕ) → 0 < get_or numbers k 0 → text_at old k ≡ text_at new (get_or numbers k 0)

-- rows of cells that stand for the same values wherever those numbers are right
abbrev pub AreSameRows : List ℕ → List ValueRef → List ValueRef → Type 0
AreSameRows numbers row other = (old new : List Place) → AreSameTexts old new numbers
    → row_values old row ≡ row_values new other

abbrev pub AreSameCells : List ℕ → ValueRef → ValueRef → Type 0
AreSameCells numbers cell other = (old new : List Place) → AreSameTexts old new numbers
    → value_of_cell old cell ≡ value_of_cell new other

-- rows of cells, of which pairs that stand for the same values were left out
abbrev pub AreCellsLeft : List ℕ → List (List ValueRef) → List (List ValueRef) → List (List ValueRef)
    → List (List ValueRef) → Type 0
AreCellsLeft numbers rows news left others = (old new : List Place) → AreSameTexts old new numbers
    → AreLeft (map (row_values old) rows) (map (row_values new) news)
    (map (row_values old) left) (map (row_values new) others)

-- no two rows of a table share a key
abbrev pub HasOwnKeys : Kept → List ℕ → Type 0
HasOwnKeys k name =
    have_own_keys k.database.pool.places (columns_in_table k name) (system_rows k.database name) ≡ true

-- the texts of one database's pool, by those of another's
abbrev pub AreTextsOf : Kept → Kept → List ℕ → Type 0
AreTextsOf old new numbers = AreSameTexts old.database.pool.places new.database.pool.places numbers

-- tables of these names, none of which keeps a transform from being made
abbrev pub AreFit : Kept → List (List ℕ) → Type 0
AreFit k names = (i : ℕ) → i < length names → is_odd_table k (get_or names i []) ≡ false
