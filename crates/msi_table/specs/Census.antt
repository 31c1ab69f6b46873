-- How many cells of tables name each place of a pool.
use Rattle.std.specs.Prelude.{◌≡◌, ℕ, ◌+◌, ◌<◌, ◌==◌, Bool, List, ◌++◌, length, Option, Some, None, count_by}
use Rattle.std.specs.Prelude.{min, nat_le, slice_index}
use Rattle.std.specs.List.{filter_map, flat_map, list_all}
use Rattle.msi_base.specs.Lists.{tabulated}
use Rattle.msi_table_cells.specs.declared.cell.ValueRef.{ValueRef}
use Rattle.msi_table_cells.specs.declared.cell.ValueRef.TheVariants as cell

-- the numbers that cells name
abbrev pub number_of_cell : ValueRef → Option ℕ
number_of_cell (cell.Str number) = Some number
number_of_cell _ = None

abbrev pub numbers_of_row : List ValueRef → List ℕ
numbers_of_row row = filter_map number_of_cell row

abbrev pub numbers_of_rows : List (List ValueRef) → List ℕ
numbers_of_rows rows = flat_map (filter_map number_of_cell) rows

-- a number of cells for each place, whether no cell names a place past the last, and whether no place has more cells
-- than are counted
pub record CensusDef : Type 0 where
  pub counts : List ℕ
  pub is_within : Bool
  pub fits : Bool

-- counting ends at the largest number of 16 bits
abbrev pub most_counted : ℕ
most_counted = 65535

-- how many of the cells that name these numbers name a place: places are numbered from 1 on
abbrev pub times_named : List ℕ → ℕ → ℕ
times_named numbers i = count_by (λ n. n == i + 1) numbers

-- the census of cells that name these numbers, in a pool of so many places
pub record IsCensus (many : ℕ) (numbers : List ℕ) (c : CensusDef) : Type 0 where
  pub many_counts : length c.counts ≡ many
  pub counts : (i : ℕ) → i < many → slice_index c.counts i ≡ min (times_named numbers i) most_counted
  pub within : c.is_within ≡ list_all (λ n. nat_le n many) numbers
  pub fits : c.fits ≡ list_all (λ n. nat_le n most_counted) (tabulated many (times_named numbers))

-- what was counted before stays counted, and cells that name these numbers are counted beside it
abbrev pub CountsMore : List ℕ → CensusDef → CensusDef → Type 0
CountsMore numbers before after = (many : ℕ) (earlier : List ℕ) → IsCensus many earlier before
    → IsCensus many (earlier ++ numbers) after
