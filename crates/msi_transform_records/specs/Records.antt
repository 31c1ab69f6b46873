-- The records of a table's stream in a transform, one behind another without padding: a mask of 16 bits, and the cells
-- of the columns that it tells.
use Rattle.std.specs.Prelude.{◌≡◌, ℕ, zero, suc, Bool, true, List, [], ◌∷◌, ◌++◌, length, ⊤, zip, flat_map}
use Rattle.std.specs.Prelude.{Option, Some, None, ◌==◌, if◌then◌else◌}
use Rattle.std.specs.Int.{w16, to_le_bytes}
use Rattle.std.specs.List.{AllByRecursion}
use Rattle.std.specs.Option.{option_map_or}
use Rattle.msi_base.specs.Numbers.{number_at}
use Rattle.msi_base.specs.Results.{◌>>=◌}
use Rattle.msi_pool.specs.Pool.{Pool}
use Rattle.msi_table_cells.specs.declared.cell.ValueRef.{ValueRef}
use Rattle.msi_transform_records.specs.declared.action.Action.{Action}
use Rattle.msi_transform_records.specs.declared.records.Record.{Record}
use Rattle.msi_transform_records.specs.declared.shape.Shape.{Shape}
use Rattle.msi_transform_records.specs.Actions.{IsAction, action_of_mask, fits_columns, mask_of, told, told_columns}
use Rattle.msi_transform_records.specs.Cells.{FitsCell, NamesPlaceInUse, bytes_of_cell, cells_at}

-- a cell for each told column, which fits it
abbrev pub FitColumns : Bool → List (ℕ × Shape) → List ValueRef → Type 0
FitColumns long [] [] = ⊤
FitColumns long (column ∷ columns) (c ∷ cs) = FitsCell long column.1.coltype c × FitColumns long columns cs
FitColumns long _ _ = ⊥

-- a record that can be spelled for a table of such columns, with references of three bytes where they are long
pub record FitsRecord (long : Bool) (shapes : List Shape) (r : Record) : Type 0 where
  pub action : IsAction r.action
  pub columns : fits_columns shapes r.action ≡ true
  pub cells : FitColumns long (told shapes r.action) r.cells

-- a record whose texts are in the pool, too
pub record IsRecord (shapes : List Shape) (pool : Pool) (r : Record) : Type 0 where
  pub fits : FitsRecord pool.long shapes r
  pub texts : AllByRecursion (NamesPlaceInUse pool.places) r.cells

-- the bytes of the cells of columns
abbrev pub told_bytes : Bool → List (ℕ × Shape) → List ValueRef → List ℕ
told_bytes long columns cells = flat_map (λ (told : (ℕ × Shape) × ValueRef). bytes_of_cell long told.0.1.coltype told.1)
    (zip columns cells)

abbrev pub record_bytes : Bool → List Shape → Record → List ℕ
record_bytes long shapes r = to_le_bytes w16 (mask_of r.action) ++ told_bytes long (told shapes r.action) r.cells

-- the bytes are those of the records, and no others
pub record SpellsRecords (shapes : List Shape) (pool : Pool) (bytes : List ℕ) (records : List Record) : Type 0 where
  pub whole : bytes ≡ flat_map (record_bytes pool.long shapes) records
  pub each : AllByRecursion (IsRecord shapes pool) records

abbrev pub record_with : Action → List ValueRef → Record
record_with action cells = record { action = action; cells = cells }

-- the action of the mask that stands in front, the columns whose cells follow, and the bytes after it
unfoldable pub head_at : List Shape → List ℕ → Option (Action × List (ℕ × Shape) × List ℕ)
head_at shapes bytes = do
  mask ← number_at w16 bytes
  action ← action_of_mask mask.0
  columns ← told_columns shapes action
  Some (action, columns, mask.1)

-- the record that stands in front, and the bytes after it
unfoldable pub record_at : List Shape → Pool → List ℕ → Option (Record × List ℕ)
record_at shapes pool bytes = do
  head ← head_at shapes bytes
  cells ← cells_at pool head.1 head.2
  Some (record_with head.0 cells.0, cells.1)

-- the records that stand in front, n at most, and the bytes after them
abbrev pub at_most_leading : ℕ → List Shape → Pool → List ℕ → List Record × List ℕ
at_most_leading zero shapes pool bytes = ([], bytes)
at_most_leading (suc n) shapes pool bytes = option_map_or
    (λ (first : Record × List ℕ). let others = at_most_leading n shapes pool first.1 in (first.0 ∷ others.0, others.1))
    (record_at shapes pool bytes) ([], bytes)

-- the records that stand in front, and the bytes that are left where no record stands any more: a record has bytes, so
-- there are no more records than bytes
abbrev pub leading : List Shape → Pool → List ℕ → List Record × List ℕ
leading shapes pool bytes = at_most_leading (length bytes) shapes pool bytes

-- the records that the bytes spell, all of them, if they spell records
abbrev pub records_in : List Shape → Pool → List ℕ → Option (List Record)
records_in shapes pool bytes = let found = leading shapes pool bytes in
    if length found.1 == 0 then Some found.0 else None
