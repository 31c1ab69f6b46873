-- Rows of a product by the numbers of the rows that are put together.
use Rattle.std.specs.Prelude.{ℕ, suc, ◌-◌, ◌<◌, Bool, true, List, [], ◌∷◌, ◌++◌, length, map, filter, reverse}
use Rattle.std.specs.Prelude.{Option, Some, None, option_map, nat_lt, if◌then◌else◌, slice_index_or, slice_set}
use Rattle.std.specs.declared.cmp.Ordering.{Ordering}
use Rattle.std.specs.List.{flat_map, range_with_len}
use Rattle.std.specs.Ordering.{nat_cmp}
use Rattle.std.specs.Cmp.Lexicographic.{slice_cmp}
use Rattle.msi_pool.specs.Pool.{Place}
use Rattle.msi_table_cells.specs.declared.cell.ValueRef.{ValueRef}
use Rattle.msi_table_values.specs.declared.value.Value.{Value}
use Rattle.msi_table_cells.specs.CellValues.{row_values}
use Rattle.msi_query_expressions.specs.Conditions.{RowFilterDef, meets}
use Rattle.msi_query.specs.Rows.{RelationCells}
use Rattle.msi_query_rows.specs.Index.{value_there}

-- a number below each count, the first varying fastest
abbrev pub combinations : List ℕ → List (List ℕ)
combinations [] = [] ∷ []
combinations (n ∷ ns) = flat_map (λ behind. map (λ i. i ∷ behind) (range_with_len 0 n)) (combinations ns)

abbrev pub IsCombination : List ℕ → List ℕ → Type 0
IsCombination [] [] = Unit {0}
IsCombination [] (i ∷ is) = ⊥
IsCombination (n ∷ ns) [] = ⊥
IsCombination (n ∷ ns) (i ∷ is) = (i < n) × IsCombination ns is

-- the last number that differs decides
abbrev pub combination_cmp : List ℕ → List ℕ → Ordering
combination_cmp one other = slice_cmp nat_cmp (reverse one) (reverse other)

-- no cells where there is no row of the number
abbrev pub numbered_row : {X : Type 0} → List (List X) → ℕ → List X
numbered_row rows n = slice_index_or rows n []

-- the row that a combination makes of the relations' rows; a number that is missing is 0
abbrev pub combined : {X : Type 0} → List (List (List X)) → List ℕ → List X
combined [] numbers = []
combined (rows ∷ others) [] = numbered_row rows 0 ++ combined others []
combined (rows ∷ others) (n ∷ ns) = numbered_row rows n ++ combined others ns

abbrev pub rows_of_each : List RelationCells → List (List (List ValueRef))
rows_of_each relations = map (λ r. r.rows) relations

abbrev pub widths_of : List RelationCells → List ℕ
widths_of relations = map (λ r. length r.columns) relations

-- whether the row of a combination meets a condition
abbrev pub is_kept : List Place → RowFilterDef → List (List (List ValueRef)) → List ℕ → Bool
is_kept places filter rows numbers = meets filter.columns filter.condition (row_values places (combined rows numbers))

-- the value in a column of the row that a combination has of a relation
abbrev pub value_combined : List Place → List (List (List ValueRef)) → List ℕ → ℕ → ℕ → Value
value_combined places rows numbers relation column =
    value_there places column (numbered_row (slice_index_or rows relation []) (slice_index_or numbers relation 0))

-- the relation, by its number, and the place there of a place of the product, where the relations have these widths
abbrev pub located : List ℕ → ℕ → Option (ℕ × ℕ)
located [] place = None
located (width ∷ widths) place =
    if nat_lt place width then Some (0, place)
    else option_map (λ at. (suc at.0, at.1)) (located widths (place - width))

-- a combination with each of these numbers for a relation, of which only those that are kept
abbrev pub with_each : (List ℕ → Bool) → ℕ → List ℕ → List ℕ → List (List ℕ)
with_each keeps relation picked numbers = filter keeps (map (λ i. slice_set numbers relation i) picked)

-- a test that only counts for whole combinations
abbrev pub if_whole : Bool → (List ℕ → Bool) → List ℕ → Bool
if_whole is_whole test numbers = if is_whole then test numbers else true
