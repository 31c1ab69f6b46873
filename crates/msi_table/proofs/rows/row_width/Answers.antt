use Rattle.std.proofs.Common.{◌∙◌, ap, arith}
use Rattle.msi_table_values.specs.Columns.{ColumnDef}
use Rattle.msi_table.proofs.PlacesLemmas.{width_more}
use Rattle.msi_table.proofs.rows.row_width.Goals as goal

pub loop-column-preserved : goal.loop-column-preserved
loop-column-preserved c = record {
  total = width_more c.args.long c.args.columns.now c.loop-column.total c.loop-column.column-index c.width-total.result c.coltype.result c.column-item.result c.loop-column-test.true
      (c.coltype.ensures ∙ ap (λ (x : ColumnDef). x.coltype) c.column-item.is) c.width-total.ensures.value c.loop-column.invariant.total;
  small = omega arith;
}
