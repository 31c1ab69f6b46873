use Rattle.std.proofs.Common.{◌∙◌, ap}
use Rattle.std.specs.FinMap.{entries}
use Rattle.msi_transform.specs.RecordsByTable.{by_text}
use Rattle.msi_transform.specs.WrittenTransforms.{with_table_streams}
use Rattle.msi_transform.proofs.RecordsByTableLemmas.{entries_in_order}
use Rattle.msi_transform.proofs.records_by_table.RecordsByTable.put_into.Goals as goal

pub loop-name-init : goal.loop-name-init
loop-name-init c = let given = c.into_iter-name-iterator.ensures.into_iter_gives in
    let streams = entries c.args.streams.now in
    ap (λ es. with_table_streams es streams)
    (ap by_text given.0 ∙ entries_in_order c.self.inside.map.entries given.5 ∙ ap entries c.self.view_is)
