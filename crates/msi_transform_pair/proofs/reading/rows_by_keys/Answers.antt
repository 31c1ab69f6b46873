use Rattle.std.proofs.Common.{arith, refl}
use Rattle.std.specs.FinMap.{entries}
use Rattle.msi_table_cells.specs.CellValues.{row_values}
use Rattle.msi_transform_pair.specs.Pair.{told_row}
use Rattle.msi_transform_pair.proofs.ToldRowsLemmas.{row_put}
use Rattle.msi_transform_pair.proofs.reading.rows_by_keys.Goals as goal

pub loop-i-preserved : goal.loop-i-preserved
loop-i-preserved c =
    let f = told_row c.args.base.now.kept c.args.table.now c.args.columns.now c.args.added in
    let g = row_values c.args.base.now.kept.database.pool.places in
    record {
      rows = row_put f g c.args.cells.now c.loop-i.i c.index-cells-cells.result (entries c.loop-i.rows) (entries c.put_row.new.rows) (f (g c.index-cells-cells.result))
          (omega arith) c.index-cells-cells.is refl c.loop-i.invariant.rows c.in_ok-put_row.ensures.ok;
    }
