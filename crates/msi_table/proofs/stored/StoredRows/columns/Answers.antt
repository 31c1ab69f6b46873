use Rattle.msi_table.proofs.ReadRowsLemmas.{read_wide}
use Rattle.msi_table.proofs.stored.StoredRows.columns.Goals as goal

pub returns-clause-wide : goal.returns-clause-wide
returns-clause-wide c = let s = c.self.inside in let t = s.table.now in
    rw (← c.self.view_is) (read_wide t.long t.columns s.bytes.now s.count)
