use Rattle.std.proofs.Common.{refl}
use Rattle.msi_query.proofs.QueryTextLemmas.{failed_write, insert_written}
use Rattle.msi_query.proofs.query.insert.InsertDisplay.fmt.Goals as goal

pub returns-in_err-write_named : goal.returns-in_err-write_named
returns-in_err-write_named g c = record { writes = failed_write g.W.Write.write_str_gives _ _ _ _ c.from_residual.ensures.0; styled = tt }

pub returns-in_err-write_columns : goal.returns-in_err-write_columns
returns-in_err-write_columns g c = record { writes = failed_write g.W.Write.write_str_gives _ _ _ _ c.from_residual-in_err-write_columns.ensures.0; styled = tt }

pub returns : goal.returns
returns g c = record {
  writes = insert_written g.W.Write.write_str_gives c.args.f.now c.write_named.new.f c.write_columns.new.f c.write_rows.new.f
      c.write_named.result c.write_columns.result c.write_rows.result
      _ c.self.inside.table c.self.inside.columns c.as_slice.result.now c.self.inside.rows c.as_slice-2.result.now
      c.self.view_is c.as_slice.ensures c.as_slice-2.ensures
      (rw c.in_ok-write_named.was refl) (rw c.in_ok-write_columns.was refl)
      c.write_named.ensures c.write_columns.ensures c.write_rows.ensures;
  styled = tt;
}
