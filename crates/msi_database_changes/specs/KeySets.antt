-- The keys of rows, sets of keys, and why rows are refused for their keys.
use Rattle.std.specs.Prelude.{◌≡◌, List, [], ◌∷◌, map}
use Rattle.std.specs.BTreeSet.{BTreeSet, contains}
use Rattle.std.specs.Cmp.Lexicographic.{slice_cmp}
use Rattle.std.specs.List.{list_any}
use Rattle.msi_base.specs.declared.errors.ErrorKind.TheVariants.{AlreadyExists, InvalidData, InvalidInput}
use Rattle.msi_base.specs.Lists.{has_pair}
use Rattle.msi_pool.specs.Pool.{Place}
use Rattle.msi_base.specs.Refusals.{Refusals}
use Rattle.msi_table_values.specs.declared.value.Value.{Value}
use Rattle.msi_table_cells.specs.declared.cell.ValueRef.{ValueRef}
use Rattle.msi_table_cells.specs.CellValues.{row_values}
use Rattle.msi_table_values.specs.Columns.{ColumnDef}
use Rattle.msi_table_values.specs.Values.{value_cmp}
use Rattle.msi_table_cells.specs.KeyOrder.{key_of, same_key}

-- the keys of rows of cells of these columns, in the rows' order
abbrev pub keys_of_rows : List Place → List ColumnDef → List (List ValueRef) → List (List Value)
keys_of_rows places columns rows = map (λ row. key_of columns (row_values places row)) rows

-- a set has the keys of a list
abbrev pub HasKeys : BTreeSet (List Value) → List (List Value) → Type 0
HasKeys set keys = (key : List Value) → contains (slice_cmp value_cmp) set key ≡ list_any (same_key key) keys

-- row by row, a new key is held already, or is that of an earlier new row
abbrev pub key_refusals : List (List Value) → List (List Value) → List (List Value) → Refusals
key_refusals held earlier [] = []
key_refusals held earlier (k ∷ ks) =
    (list_any (same_key k) held, AlreadyExists)
    ∷ (list_any (same_key k) earlier, InvalidInput) ∷ key_refusals held (k ∷ earlier) ks

-- two rows of the table share a key; then those of the new rows
abbrev pub clash_refusals : List (List Value) → List (List Value) → Refusals
clash_refusals held new = (has_pair same_key held, InvalidData) ∷ key_refusals held [] new
