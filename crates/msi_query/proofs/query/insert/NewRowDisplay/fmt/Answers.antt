use Rattle.std.proofs.Common.{map, Some, codes, refl}
use Rattle.msi_table.specs.Values.{value_text}
use Rattle.msi_query.specs.QueryTexts.{listed}
use Rattle.msi_query.proofs.QueryTextLemmas.{failed_write, three_writes}
use Rattle.msi_query.proofs.query.insert.NewRowDisplay.fmt.Goals as goal

pub returns-in_err-write_str : goal.returns-in_err-write_str
returns-in_err-write_str g c = record { writes = failed_write g.W.Write.write_str_gives _ _ _ _ c.from_residual.ensures.0; styled = tt }

pub returns-in_err-write_list : goal.returns-in_err-write_list
returns-in_err-write_list g c = record { writes = failed_write g.W.Write.write_str_gives _ _ _ _ c.from_residual-in_err-write_list.ensures.0; styled = tt }

pub returns : goal.returns
returns g c = record {
  writes = three_writes g.W.Write.write_str_gives c.args.f.now c.write_str.new.self c.write_list.new.f c.write_str-2.new.self
      c.write_str.result c.write_list.result c.write_str-2.result
      (Some (codes "(")) (listed (map value_text c.as_slice.result.now)) (Some (codes ")")) _
      (rw (← c.self.view_is, c.as_slice.ensures.value) refl)
      (rw c.in_ok-write_str.was refl) (rw c.in_ok-write_list.was refl)
      c.write_str.ensures.writes c.write_list.ensures c.write_str-2.ensures.writes;
  styled = tt;
}
