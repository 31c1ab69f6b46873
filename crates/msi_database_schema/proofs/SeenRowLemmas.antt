-- The values of a row of cells, by position and all of them.
use Rattle.std.proofs.Common.{◌≡◌, ℕ, List, slice_get}
use Rattle.std.specs.Prelude.{option_map}
use Rattle.std.specs.List.{list_any}
use Rattle.std.proofs.lemmas.Option.{slice_get-map}
use Rattle.msi_base.proofs.ListLemmas.{list_any-map}
use Rattle.msi_pool.specs.Pool.{Place}
use Rattle.msi_table_cells.specs.declared.cell.ValueRef.{ValueRef}
use Rattle.msi_table_cells.specs.CellValues.{row_values, value_of_cell}
use Rattle.msi_table_values.specs.Values.{is_null}

-- a cell's value stands where the cell does
pub cell_found : (places : List Place) (cells : List ValueRef) (place : ℕ) → slice_get (row_values places cells) place ≡ option_map (value_of_cell places) (slice_get cells place)
cell_found places cells place = slice_get-map (value_of_cell places) cells place

-- a value is null where a cell stands for null
pub nulls_of_cells : (places : List Place) (cells : List ValueRef) → list_any is_null (row_values places cells) ≡ list_any (λ cell. is_null (value_of_cell places cell)) cells
nulls_of_cells places cells = list_any-map is_null (value_of_cell places) cells
