use Rattle.std.proofs.Common.{◌∙◌, ap, length}
use Rattle.msi_transform_rows.proofs.KeyedRowsLemmas.{entries_in_order}
use Rattle.msi_transform_rows.proofs.keyed.KeyedRows.len.Goals as goal

pub returns : goal.returns
returns c = c.len.ensures.len ∙ ap length (entries_in_order c.self.inside.map.entries c.args.self.now c.self.view_is c.len.ensures.ordered)
