-- Values and cells: what a cell stands for, what storing a value takes from the pool, and what removing one gives back.
use Rattle.std.specs.Prelude.{Bool, List, map, Option, Some, option_map}
use Rattle.msi_pool.specs.Pool.{Place}
use Rattle.msi_pool.specs.FirstFit.{taken, given_back}
use Rattle.msi_pool.specs.FirstFitLaws.{text_at}
use Rattle.msi_table_cells.specs.declared.cell.ValueRef.{ValueRef}
use Rattle.msi_table_cells.specs.declared.cell.ValueRef.TheVariants as cell
use Rattle.msi_table_values.specs.declared.value.Value.{Value}
use Rattle.msi_table_values.specs.declared.value.Value.TheVariants as value

-- what a cell stands for: a text past the pool is empty
abbrev pub value_of_cell : List Place → ValueRef → Value
value_of_cell places cell.Null = value.Null
value_of_cell places (cell.Int n) = value.Int n
value_of_cell places (cell.Str number) = value.Str (text_at places number)
value_of_cell places cell.Binary = value.Binary

-- what the cells of a row stand for
abbrev pub row_values : List Place → List ValueRef → List Value
row_values places row = map (value_of_cell places) row

-- the cell of a value and the places after its text was taken, or nothing where the pool is full
abbrev pub cell_of_value : Bool → List Place → Value → Option (ValueRef × List Place)
cell_of_value long places value.Null = Some (cell.Null, places)
cell_of_value long places (value.Int n) = Some (cell.Int n, places)
cell_of_value long places (value.Str text) = option_map (λ t. (cell.Str t.0, t.1)) (taken long places text)
cell_of_value long places value.Binary = Some (cell.Binary, places)

-- the places after a cell was removed, or nothing where its text's place is free or past the end
abbrev pub places_without : List Place → ValueRef → Option (List Place)
places_without places (cell.Str number) = given_back places number
places_without places _ = Some places
