-- What holds of ordered and of distinct rows.
use Rattle.std.specs.Prelude.{◌≡◌, ◌↔◌, ℕ, List, [], ◌∷◌, ◌++◌, if◌then◌else◌, IsTrue}
use Rattle.std.specs.List.{IsDistinct, list_any}
use Rattle.msi_table_cells.specs.SortedRows.{IsStableSort}
use Rattle.msi_table_values.specs.declared.value.Value.{Value}
use Rattle.msi_table_values.specs.Columns.{ColumnDef}
use Rattle.msi_query.specs.Selection.{in_order, order_cmp, same_row, unseen}

-- the order of columns is the one stable sort of the rows by their values there
abbrev pub RowsAreOrdered : Type 0
RowsAreOrdered = (columns : List ColumnDef) (names : List (List ℕ)) (rows sorted : List (List Value))
    → (sorted ≡ in_order columns names rows) ↔ IsStableSort (order_cmp columns names) rows sorted

-- rows count as the same exactly where they are equal
abbrev pub SameRowsAreEqual : Type 0
SameRowsAreEqual = (row other : List Value) → IsTrue (same_row row other) ↔ (row ≡ other)

-- of the rows that are kept no two are the same; a row is among them exactly where it is among all; and one more row is
-- kept, behind the others, exactly where none in front of it is the same
pub record StandOnce (rows : List (List Value)) : Type 0 where
  pub distinct : IsDistinct same_row (unseen [] rows)
  pub all : (row : List Value) → list_any (same_row row) (unseen [] rows) ≡ list_any (same_row row) rows
  pub in_turn : (row : List Value) → unseen [] (rows ++ row ∷ [])
      ≡ unseen [] rows ++ (if list_any (same_row row) rows then [] else row ∷ [])

abbrev pub DistinctRowsStandOnce : Type 0
DistinctRowsStandOnce = (rows : List (List Value)) → StandOnce rows
