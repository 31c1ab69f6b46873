use Rattle.std.proofs.Common.{take}
use Rattle.msi_table.specs.Census.{CountsMore, numbers_of_rows}
use Rattle.msi_table.proofs.census.Census.count_rows.Given as goal

abbrev pub invariant-loop-row : goal.invariant-loop-row
invariant-loop-row l = CountsMore (numbers_of_rows (take l.row-index l.rows)) l.initial.self l.self
