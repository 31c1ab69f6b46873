use Rattle.std.proofs.Common.{sym, ap, ◌∙◌, arith}
use Rattle.msi_table_cells.specs.KeyOrder.{key_of}
use Rattle.msi_table.proofs.PlaceLemmas.{index_more}
use Rattle.msi_table.proofs.index.index_of.Goals as goal

pub loop-i-preserved : goal.loop-i-preserved
loop-i-preserved c = record {
  known = index_more c.args.columns.now c.args.rows.now c.loop-i.i c.index-rows-i.result c.in_ok-key.key c.loop-i.index c.insert.new.self
      (omega arith) (sym c.index-rows-i.is) (c.in_ok-key.ensures.ok ∙ ap (key_of c.args.columns.now) c.as_slice.ensures)
      c.loop-i.invariant.known c.in_ok-insert.ensures.updates;
}
