use Rattle.std.proofs.Common.{◌≡◌, ◌++◌, map}
use Rattle.msi.specs.Table.Row.{RowDef}
use Rattle.msi.specs.Query.Rows.{rows_values}
use Rattle.msi_replay.proofs.looking.all_rows.Given as goal

-- those that were given, and those that are left
abbrev pub invariant-loop-row : goal.invariant-loop-row
invariant-loop-row l = record {
  given : map (λ (row : RowDef). row.values) l.all.items ++ rows_values l.row-iterator.places l.row-iterator.rows
      ≡ rows_values l.fn.rows.places l.fn.rows.rows;
}
