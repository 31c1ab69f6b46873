use Rattle.std.proofs.Common.{List, ap, sym, ◌∙◌}
use Rattle.msi_table_cells.specs.declared.cell.ValueRef.{ValueRef}
use Rattle.msi_table.specs.Rows.{RowsDef}
use Rattle.msi_table.specs.Sources.{rows_of_source}
use Rattle.msi_table.proofs.GivenLemmas.{drop_given}
use Rattle.msi_table.proofs.row.RowsIterator.next.Goals as goal

pub returns-in-Ok-clause-steps : goal.returns-in-Ok-clause-steps
returns-in-Ok-clause-steps c =
    let s = c.self.inside in
    let at = c.in-Ok.ensures.ok in
    let view : List (List ValueRef) → RowsDef = λ rows. record { columns = s.columns.value; places = s.pool.now.places; all = rows_of_source s.source; rows = rows } in
    (at.0, sym c.self.view_is ∙ ap view (drop_given (rows_of_source s.source) s.given at.0 at.1), rw (← c.self.view_is) at.2)
