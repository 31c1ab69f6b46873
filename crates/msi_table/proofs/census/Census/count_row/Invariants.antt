use Rattle.std.proofs.Common.{take}
use Rattle.msi_table.specs.Census.{CountsMore, numbers_of_row}
use Rattle.msi_table.proofs.census.Census.count_row.Given as goal

abbrev pub invariant-loop-cell : goal.invariant-loop-cell
invariant-loop-cell l = CountsMore (numbers_of_row (take l.cell-index l.row)) l.initial.self l.self
