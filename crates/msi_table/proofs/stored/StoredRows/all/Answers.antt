use Rattle.std.proofs.Common.{◌≡◌}
use Rattle.std.proofs.lemmas.Result.{IfOk-weaker}
use Rattle.msi_base.specs.Lists.{tabulated}
use Rattle.msi_table.specs.Cells.{row_in}
use Rattle.msi_table.specs.Rows.{AreAsWide}
use Rattle.msi_table_values.specs.Columns.{types_of}
use Rattle.msi_table.proofs.ReadRowsLemmas.{read_wide}
use Rattle.msi_table.proofs.stored.StoredRows.all.Goals as goal

pub returns-clause-wide : goal.returns-clause-wide
returns-clause-wide c = let s = c.self.inside in let t = s.table.now in
    rw (← c.self.view_is) (IfOk-weaker c.read_all.result (λ rows. rows.items ≡ tabulated s.count (row_in t.long (types_of t.columns) s.bytes.now)) (λ rows. AreAsWide t.columns rows.items)
    (λ rows e. rw e (read_wide t.long t.columns s.bytes.now s.count))
    (rw (← c.is_long.ensures, ← c.columns.ensures.columns) c.read_all.ensures.ok))
