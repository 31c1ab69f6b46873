use Rattle.std.proofs.Common.{◌+◌, ◌*◌, take, drop}
use Rattle.msi_base.specs.Lists.{tabulated}
use Rattle.msi_table.specs.Cells.{cell_in, width}
use Rattle.msi_table.specs.Census.{CountsMore, numbers_of_row}
use Rattle.msi_table.proofs.census.Census.count_column.Given as goal

abbrev pub invariant-loop-i : goal.invariant-loop-i
invariant-loop-i l = let wide = width l.long l.fn.coltype in
    CountsMore (numbers_of_row (tabulated l.i (λ i. cell_in l.fn.coltype (take wide (drop (l.start + i * wide) l.bytes))))) l.initial.self l.self
