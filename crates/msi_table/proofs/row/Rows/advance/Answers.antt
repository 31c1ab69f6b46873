use Rattle.std.proofs.Common.{List, ap, sym}
use Rattle.std.proofs.lemmas.List.{drop-drop}
use Rattle.msi_table_cells.specs.declared.cell.ValueRef.{ValueRef}
use Rattle.msi_table.specs.Rows.{RowsDef}
use Rattle.msi_table.specs.Sources.{rows_of_source}
use Rattle.msi_table.proofs.row.Rows.advance.Goals as goal

pub returns-then-self-len : goal.returns-then-self-len
returns-then-self-len c =
    let s = c.self.inside in
    let view : List (List ValueRef) → RowsDef = λ rows. record { columns = s.columns.value; places = s.pool.now.places; all = rows_of_source s.source; rows = rows } in
    rw (← c.self.view_is) (ap view (sym (drop-drop 1 s.given (rows_of_source s.source))))
