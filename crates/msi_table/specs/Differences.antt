-- The differences between the rows of two tables with the same columns, whose rows are paired by their keys.
use Rattle.std.specs.Prelude.{◌≡◌, ℕ, ◌+◌, Bool, true, false, if◌then◌else◌, List, [], ◌∷◌, ◌++◌, Option, Some, None}
use Rattle.std.specs.Prelude.{slice_get}
use Rattle.std.specs.BTreeMap.{BTreeMap, get}
use Rattle.std.specs.Cmp.Lexicographic.{slice_cmp, pointwise}
use Rattle.std.specs.Option.{option_to_list}
use Rattle.std.specs.Ordering.{eq_by_cmp}
use Rattle.msi_table_values.specs.declared.value.Value.{Value}
use Rattle.msi_table_values.specs.Columns.{ColumnDef}
use Rattle.msi_table_values.specs.Values.{value_cmp}
use Rattle.msi_table_cells.specs.KeyOrder.{key_of, same_key}
use Rattle.msi_table.specs.declared.comparing.Difference.{Difference}
use Rattle.msi_table.specs.declared.comparing.Difference.TheVariants.{Removed, Changed, Added}

-- the first of two that is there
abbrev pub either : Option ℕ → Option ℕ → Option ℕ
either (Some place) other = Some place
either None other = other

-- the place of the last row of a key, where the first row's place is n; in a sound table no two rows have one key
abbrev pub place_from : List ColumnDef → List Value → ℕ → List (List Value) → Option ℕ
place_from columns key n [] = None
place_from columns key n (row ∷ rows) =
    either (place_from columns key (n + 1) rows) (if same_key (key_of columns row) key then Some n else None)

abbrev pub place_of : List ColumnDef → List (List Value) → List Value → Option ℕ
place_of columns rows key = place_from columns key 0 rows

-- rows are the same where each value is
abbrev pub same_row : List Value → List Value → Bool
same_row row other = pointwise (eq_by_cmp value_cmp) row other

-- the row at a place has these values
abbrev pub is_same_as : Option (List Value) → List Value → Bool
is_same_as (Some other) row = same_row other row
is_same_as None row = false

abbrev pub stands_at : List (List Value) → ℕ → List Value → Bool
stands_at rows place row = is_same_as (slice_get rows place) row

-- an old row is removed if no new row has its key, and changed if that one has other values
abbrev pub old_with : List (List Value) → ℕ → List Value → Option ℕ → Option Difference
old_with new place row None = Some (Removed place)
old_with new place row (Some there) = if stands_at new there row then None else Some (Changed place there)

abbrev pub of_old : List ColumnDef → List (List Value) → ℕ → List Value → Option Difference
of_old columns new place row = old_with new place row (place_of columns new (key_of columns row))

-- a new row is added if no old row has its key
abbrev pub new_with : ℕ → Option ℕ → Option Difference
new_with place None = Some (Added place)
new_with place (Some there) = None

abbrev pub of_new : List ColumnDef → List (List Value) → ℕ → List Value → Option Difference
of_new columns old place row = new_with place (place_of columns old (key_of columns row))

-- what each row makes, where the first row's place is n
abbrev pub each_from : (ℕ → List Value → Option Difference) → ℕ → List (List Value) → List Difference
each_from makes n [] = []
each_from makes n (row ∷ rows) = option_to_list (makes n row) ++ each_from makes (n + 1) rows

abbrev pub differences : List ColumnDef → List (List Value) → List (List Value) → List Difference
differences columns old new = each_from (of_old columns new) 0 old ++ each_from (of_new columns old) 0 new

-- an index has the place of each key
abbrev pub IsIndex : List ColumnDef → List (List Value) → BTreeMap (List Value) ℕ → Type 0
IsIndex columns rows index = (key : List Value) → get (slice_cmp value_cmp) index key ≡ place_of columns rows key
