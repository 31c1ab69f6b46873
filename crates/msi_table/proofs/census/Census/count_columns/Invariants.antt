use Rattle.std.proofs.Common.{◌≡◌, ◌*◌, take, sum}
use Rattle.msi_table.specs.Cells.{cell_at, widths}
use Rattle.msi_table.specs.Census.{CountsMore}
use Rattle.msi_table_values.specs.Columns.{types_of}
use Rattle.msi_table.proofs.CensusLemmas.{by_columns}
use Rattle.msi_table.proofs.census.Census.count_columns.Given as goal

abbrev pub invariant-loop-column : goal.invariant-loop-column
invariant-loop-column l = record {
  counted : CountsMore (by_columns (cell_at l.long (types_of l.columns) l.bytes) l.count l.column-index) l.initial.self l.self;
  start : l.start ≡ l.count * sum (take l.column-index (widths l.long (types_of l.columns)));
}
