-- Rows that have a cell for each column.
use Rattle.std.specs.Prelude.{◌≡◌, ℕ, List, length}
use Rattle.std.specs.List.{AllByRecursion}
use Rattle.msi_query.specs.Selection.{Relation}

abbrev pub HasWidth : {X : Type 0} → ℕ → List (List X) → Type 0
HasWidth n rows = AllByRecursion (λ row. length row ≡ n) rows

abbrev pub ValuesAreWide : Relation → Type 0
ValuesAreWide r = HasWidth (length r.columns) r.rows
