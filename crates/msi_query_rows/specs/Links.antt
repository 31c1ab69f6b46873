-- Columns of two relations that a condition wants to be equal.
use Rattle.std.specs.Prelude.{◌≡◌, ℕ, Bool, true, false, not, ◌&&◌, List, [], ◌∷◌, length, map, filter, Option}
use Rattle.std.specs.Prelude.{Some, None}
use Rattle.std.specs.Prelude.{slice_index_or}
use Rattle.std.specs.List.{AllByRecursion, flat_map, range_with_len}
use Rattle.std.specs.Ordering.{is_eq}
use Rattle.msi_pool.specs.Pool.{Place}
use Rattle.msi_table_cells.specs.declared.cell.ValueRef.{ValueRef}
use Rattle.msi_table_values.specs.Columns.{ColumnDef}
use Rattle.msi_table_values.specs.Values.{value_cmp}
use Rattle.msi_query_expressions.specs.Conditions.{RowFilterDef}
use Rattle.msi_query_expressions.specs.Equated.{equations}
use Rattle.msi_query_expressions.specs.Expressions.{Expression}
use Rattle.msi_query_rows.specs.declared.links.Link.{Link}
use Rattle.msi_query_rows.specs.Combinations.{IsCombination, is_kept, located, numbered_row, value_combined}
use Rattle.msi_query_rows.specs.Index.{value_there}

-- a column of each of two relations, by the numbers of both
abbrev pub link_of : ℕ × ℕ → ℕ × ℕ → Link
link_of one other = record { from = one.0; from_column = one.1; to = other.0; to_column = other.1 }

abbrev pub both_links : Option (ℕ × ℕ) → Option (ℕ × ℕ) → List Link
both_links (Some one) (Some other) = link_of one other ∷ link_of other one ∷ []
both_links _ _ = []

-- an equation of two places of the product, both ways, where the relations have these widths
abbrev pub links_between : List ℕ → ℕ × ℕ → List Link
links_between widths equation = both_links (located widths equation.0) (located widths equation.1)

abbrev pub links_of : List ℕ → List ColumnDef → Option Expression → List Link
links_of widths columns None = []
links_of widths columns (Some condition) = flat_map (links_between widths) (equations columns condition)

-- a combination's rows have equal values in the columns of a link
abbrev pub AreLinked : List Place → List (List (List ValueRef)) → List ℕ → Link → Type 0
AreLinked places rows numbers link = is_eq (value_cmp (value_combined places rows numbers link.to link.to_column)
    (value_combined places rows numbers link.from link.from_column)) ≡ true

-- the rows of each combination that is kept are linked so
abbrev pub AreImplied : List Place → RowFilterDef → List (List (List ValueRef)) → List Link → Type 0
AreImplied places filter rows links = (numbers : List ℕ) → IsCombination (map length rows) numbers
    → is_kept places filter rows numbers ≡ true → AllByRecursion (AreLinked places rows numbers) links

-- whether a link goes from a relation that is combined to one that isn't
abbrev pub connects : List Bool → Link → Bool
connects joined link = slice_index_or joined link.from false && not (slice_index_or joined link.to true)

-- the numbers of a relation's rows; where a link is given, of those that have the value that it leads from
abbrev pub numbers_for : List Place → List (List (List ValueRef)) → ℕ → Option Link → List ℕ → List ℕ
numbers_for places rows relation None numbers = range_with_len 0 (length (slice_index_or rows relation []))
numbers_for places rows relation (Some link) numbers =
    filter (λ i. is_eq (value_cmp (value_there places link.to_column (numbered_row (slice_index_or rows relation []) i))
    (value_combined places rows numbers link.from link.from_column)))
    (range_with_len 0 (length (slice_index_or rows relation [])))

-- the relation that a link leads to, if one is given, and else another
abbrev pub relation_of : Option Link → ℕ → ℕ
relation_of None other = other
relation_of (Some link) other = link.to
