use Rattle.std.proofs.Common.{sym}
use Rattle.msi_table.specs.Cells.{row_in}
use Rattle.msi_table_values.specs.Columns.{types_of}
use Rattle.msi_table.proofs.ReadRowsLemmas.{length-tabulated}
use Rattle.msi_table.proofs.stored.StoredRows.len.Goals as goal

pub returns-clause-many : goal.returns-clause-many
returns-clause-many c = let s = c.self.inside in let t = s.table.now in
    rw (← c.self.view_is) (sym (length-tabulated s.count (row_in t.long (types_of t.columns) s.bytes.now)))
