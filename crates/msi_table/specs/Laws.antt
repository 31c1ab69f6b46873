-- What follows from the definition of differences.
use Rattle.std.specs.Prelude.{◌≡◌, ◌≢◌, ◌++◌, Bool, false, List, [], ◌∷◌, map, slice_get, slice_set, IsPermutation}
use Rattle.std.specs.Prelude.{ℕ, Option, Some, None, IsSomeAnd, option_and_then, option_map, unwrap_or}
use Rattle.std.specs.List.{AllByRecursion, filter_map, fold, list_any}
use Rattle.msi_base.specs.Lists.{has_pair}
use Rattle.msi_table_cells.specs.KeyOrder.{key_of, same_key}
use Rattle.msi_table_values.specs.declared.value.Value.{Value}
use Rattle.msi_table_values.specs.Columns.{ColumnDef}
use Rattle.msi_table.specs.declared.comparing.Difference.{Difference}
use Rattle.msi_table.specs.declared.comparing.Difference.TheVariants.{Removed, Changed, Added}
use Rattle.msi_table.specs.Differences.{differences, place_of}

-- the row of a key
abbrev pub row_of : List ColumnDef → List (List Value) → List Value → Option (List Value)
row_of columns rows key = option_and_then (slice_get rows) (place_of columns rows key)

-- where there is no difference, the rows of each key are the same
abbrev pub NoneMeansSame : Type 0
NoneMeansSame = (columns : List ColumnDef) (old new : List (List Value)) → differences columns old new ≡ []
    → (key : List Value) → row_of columns old key ≡ row_of columns new key

-- no two rows share a key
abbrev pub KeysDiffer : List ColumnDef → List (List Value) → Type 0
KeysDiffer columns rows = has_pair same_key (map (key_of columns) rows) ≡ false

-- the rows by their places, after one difference: a removed row leaves its place empty, the new row takes the place of
-- a changed one, and an added row goes to the end
abbrev pub after : List (List Value) → List (Option (List Value)) → Difference → List (Option (List Value))
after new rows (Removed place) = slice_set rows place None
after new rows (Changed place there) = slice_set rows place (slice_get new there)
after new rows (Added place) = rows ++ slice_get new place ∷ []

-- the old rows, after each difference in turn
abbrev pub applied : List (List Value) → List Difference → List (List Value) → List (List Value)
applied new found old = filter_map (λ row. row) (fold (after new) (map Some old) found)

-- applied to the old rows, the differences give the new rows, in some order
abbrev pub DifferencesMakeNew : Type 0
DifferencesMakeNew = (columns : List ColumnDef) (old new : List (List Value))
    → KeysDiffer columns old → KeysDiffer columns new
    → IsPermutation (applied new (differences columns old new) old) new

-- a row has the key
abbrev pub has_key : List ColumnDef → List (List Value) → List Value → Bool
has_key columns rows key = list_any (λ row. same_key (key_of columns row) key) rows

-- the new row of the same key differs from the old one
abbrev pub Differ : List ColumnDef → List Value → List Value → Type 0
Differ columns row other = (key_of columns row ≡ key_of columns other) × (row ≢ other)

-- no new row has the key of a removed one, a changed one differs from the new row of its key, and no old row has the
-- key of an added one
abbrev pub IsNeeded : List ColumnDef → List (List Value) → List (List Value) → Difference → Type 0
IsNeeded columns old new (Removed place) =
    IsSomeAnd (slice_get old place) (λ row. has_key columns new (key_of columns row) ≡ false)
IsNeeded columns old new (Changed place there) =
    IsSomeAnd (slice_get old place) (λ row. IsSomeAnd (slice_get new there) (Differ columns row))
IsNeeded columns old new (Added place) =
    IsSomeAnd (slice_get new place) (λ row. has_key columns old (key_of columns row) ≡ false)

abbrev pub EachIsNeeded : Type 0
EachIsNeeded = (columns : List ColumnDef) (old new : List (List Value))
    → AllByRecursion (IsNeeded columns old new) (differences columns old new)

-- the key of the row that a difference names
abbrev pub key_at : List ColumnDef → List (List Value) → ℕ → List Value
key_at columns rows place = unwrap_or (option_map (key_of columns) (slice_get rows place)) []

abbrev pub named_key : List ColumnDef → List (List Value) → List (List Value) → Difference → List Value
named_key columns old new (Removed place) = key_at columns old place
named_key columns old new (Changed place there) = key_at columns old place
named_key columns old new (Added place) = key_at columns new place

-- no two differences name rows of the same key
abbrev pub KeysAreNamedOnce : Type 0
KeysAreNamedOnce = (columns : List ColumnDef) (old new : List (List Value))
    → KeysDiffer columns old → KeysDiffer columns new
    → has_pair same_key (map (named_key columns old new) (differences columns old new)) ≡ false
