use Rattle.std.proofs.Common.{◌+◌, ◌*◌, ◌∙◌, ap, sym, take, drop}
use Rattle.msi_table.specs.Cells.{cell_in, width}
use Rattle.msi_table.proofs.CensusLemmas.{cell_counted, no_texts}
use Rattle.msi_table.proofs.census.Census.count_column.Goals as goal

pub returns-then-not-holds_texts : goal.returns-then-not-holds_texts
returns-then-not-holds_texts c = no_texts c.args.coltype c.args.count (λ i. take (width c.args.long c.args.coltype) (drop (c.args.start + i * width c.args.long c.args.coltype) c.args.bytes.now)) c.args.self.now
    (sym c.holds_texts.ensures ∙ c.if-not-holds_texts.true)

pub loop-i-preserved : goal.loop-i-preserved
loop-i-preserved c =
    let wide = width c.args.long c.args.coltype in
    cell_counted (λ i. cell_in c.args.coltype (take wide (drop (c.args.start + i * wide) c.args.bytes.now))) c.loop-i.i c.read_cell.result c.args.self.now c.loop-i.self c.count.new.self
    (c.read_cell.ensures ∙ ap (λ w. cell_in c.args.coltype (take wide (drop (c.args.start + c.loop-i.i * w) c.args.bytes.now))) c.width-width.ensures.value)
    c.loop-i.invariant c.count.ensures
