use Rattle.std.proofs.Common.{◌≡◌, ◌++◌, take}
use Rattle.std.specs.List.{flat_map}
use Rattle.msi_table.specs.Cells.{cell_bytes}
use Rattle.msi_table_cells.specs.Fitting.{cell_of}
use Rattle.msi_transform_rows.proofs.row_bytes.write_column.Given as goal

abbrev pub invariant-loop-i : goal.invariant-loop-i
invariant-loop-i l = record {
  out : l.out.items ≡ l.initial.out.items ++ flat_map (λ row. cell_bytes l.long l.coltype (cell_of row l.j)) (take l.i l.rows);
}
