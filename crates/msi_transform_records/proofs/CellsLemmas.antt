-- Cells that were read, as a loop puts them together.
use Rattle.std.proofs.Common.{List, ◌++◌, Option}
use Rattle.std.specs.Prelude.{ℕ, option_map}
use Rattle.msi_table_cells.specs.declared.cell.ValueRef.{ValueRef}

-- cells in front of cells that were read
abbrev pub with_front : List ValueRef → Option (List ValueRef × List ℕ) → Option (List ValueRef × List ℕ)
with_front front read = option_map (λ (x : List ValueRef × List ℕ). (front ++ x.0, x.1)) read

-- the bytes behind
abbrev pub behind : Option (List ValueRef × List ℕ) → Option (List ℕ)
behind read = option_map (λ (x : List ValueRef × List ℕ). x.1) read
