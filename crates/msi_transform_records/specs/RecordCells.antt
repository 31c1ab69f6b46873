-- What a record says of a row: the cells of its key, those that it changes, and the row that it adds.
use Rattle.std.specs.Prelude.{ℕ, Bool, not, List, length, map, filter, zip}
use Rattle.msi_base.specs.Lists.{tabulated}
use Rattle.msi_table_cells.specs.declared.cell.ValueRef.{ValueRef}
use Rattle.msi_table_cells.specs.Fitting.{cell_of}
use Rattle.msi_transform_records.specs.declared.records.Record.{Record}
use Rattle.msi_transform_records.specs.declared.shape.Shape.{Shape}
use Rattle.msi_transform_records.specs.Actions.{told}

abbrev pub is_of_key : (ℕ × Shape) × ValueRef → Bool
is_of_key told = told.0.1.is_key

-- of columns with their cells: the cells of the key's columns, in their order
abbrev pub key_of : List ((ℕ × Shape) × ValueRef) → List ValueRef
key_of cells = map (λ (told : (ℕ × Shape) × ValueRef). told.1) (filter is_of_key cells)

-- and those of the other columns, each behind the number of its column, from 0 on
abbrev pub changes_of : List ((ℕ × Shape) × ValueRef) → List (ℕ × ValueRef)
changes_of cells = map (λ (told : (ℕ × Shape) × ValueRef). (told.0.0, told.1))
    (filter (λ told. not (is_of_key told)) cells)

-- the told columns, each with its number and its cell
abbrev pub told_cells : List Shape → Record → List ((ℕ × Shape) × ValueRef)
told_cells shapes r = zip (told shapes r.action) r.cells

abbrev pub key_of_record : List Shape → Record → List ValueRef
key_of_record shapes r = key_of (told_cells shapes r)

-- a bit of a key's column means nothing
abbrev pub changes_of_record : List Shape → Record → List (ℕ × ValueRef)
changes_of_record shapes r = changes_of (told_cells shapes r)

-- the row that a record adds: null in the columns that it doesn't tell
abbrev pub added_cells : List Shape → Record → List ValueRef
added_cells shapes r = tabulated (length shapes) (cell_of r.cells)
