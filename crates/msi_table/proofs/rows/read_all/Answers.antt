use Rattle.msi_table.specs.Cells.{row_in}
use Rattle.msi_table_values.specs.Columns.{types_of}
use Rattle.msi_table.proofs.PlacesLemmas.{tabulated_push}
use Rattle.msi_table.proofs.rows.read_all.Goals as goal

pub loop-i-preserved : goal.loop-i-preserved
loop-i-preserved c = record {
  rows = tabulated_push c.loop-i.rows.items c.push.new.self.items c.loop-i.i (row_in c.args.long (types_of c.args.columns.now) c.args.bytes.now) c.in_ok-read_row.field-0
      c.in_ok-push.ensures.items c.loop-i.invariant.rows c.in_ok-read_row.ensures.ok;
}
