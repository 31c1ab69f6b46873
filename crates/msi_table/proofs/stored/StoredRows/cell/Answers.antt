use Rattle.std.proofs.Common.{Some, ap, sym, ◌∙◌}
use Rattle.msi_table.proofs.ReadRowsLemmas.{cell_found, cell_missing}
use Rattle.msi_table.proofs.stored.StoredRows.cell.Goals as goal

pub returns : goal.returns
returns c = let s = c.self.inside in let t = s.table.now in
    rw (← c.self.view_is) (ap Some (rw (← c.is_long-long.ensures, ← c.columns-columns.ensures.columns) c.read_one.ensures)
    ∙ sym (cell_found t.long t.columns s.bytes.now s.count c.args.row c.args.column c.if-row-self.false (rw (← c.columns-columns.ensures.columns) c.if-column-columns.false)))

pub returns-then-row-self : goal.returns-then-row-self
returns-then-row-self c = let s = c.self.inside in let t = s.table.now in
    rw (← c.self.view_is) (sym (cell_missing t.long t.columns s.bytes.now s.count c.args.row c.args.column (rw (← c.columns-columns.ensures.columns) c.then-row-self.either)))
