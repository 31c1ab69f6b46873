-- Worked selections, by computation.
use Rattle.std.proofs.Common.{◌≡◌, pos, List, [], ◌∷◌, codes, map, true, refl}
use Rattle.msi_table.specs.Columns.{ColumnDef, begun_column}
use Rattle.msi_table.specs.Value.{Value}
use Rattle.msi_table.specs.Value.TheVariants.{Null, Int, Str}
use Rattle.msi_query.specs.Queries.{Clauses, no_clauses}
use Rattle.msi_query.specs.Selection.{Relation, selected}

abbrev columns : List ColumnDef
columns = map begun_column (codes "Word" ∷ codes "Number" ∷ [])

abbrev b1 : List Value
b1 = Str (codes "b") ∷ Int (pos 1) ∷ []

abbrev a1 : List Value
a1 = Str (codes "a") ∷ Int (pos 1) ∷ []

abbrev a2 : List Value
a2 = Str (codes "a") ∷ Int (pos 2) ∷ []

abbrev null1 : List Value
null1 = Null ∷ Int (pos 1) ∷ []

abbrev rows_of : Clauses → List (List Value)
rows_of c = let all : Relation = record { name = codes "T"; columns = columns; rows = a2 ∷ b1 ∷ a1 ∷ null1 ∷ a2 ∷ [] } in (selected c all).rows

-- rows that are equal in the column stay in their order
by_number : rows_of (record no_clauses { order = codes "Number" ∷ [] }) ≡ b1 ∷ a1 ∷ null1 ∷ a2 ∷ a2 ∷ []
by_number = refl

-- null comes first; rows that are equal in the first column go by the second
by_word : rows_of (record no_clauses { order = codes "Word" ∷ codes "Number" ∷ [] }) ≡ null1 ∷ a1 ∷ a2 ∷ a2 ∷ b1 ∷ []
by_word = refl

-- the first of equal rows is kept
each_once : rows_of (record no_clauses { is_distinct = true }) ≡ a2 ∷ b1 ∷ a1 ∷ null1 ∷ []
each_once = refl

-- rows are compared by the columns that are kept, and may be ordered by others
words_once : rows_of (record no_clauses { columns = codes "Word" ∷ []; order = codes "Number" ∷ []; is_distinct = true })
    ≡ (Str (codes "b") ∷ []) ∷ (Str (codes "a") ∷ []) ∷ (Null ∷ []) ∷ []
words_once = refl
