use Rattle.std.proofs.Common.{◌≡◌, ◌++◌, ◌∙◌, [], List, ap}
use Rattle.msi_table_values.specs.declared.value.Value.{Value}
use Rattle.msi_transform_rows.specs.declared.row.RowInHand.{RowInHand}
use Rattle.msi_transform_rows.proofs.KeyedRowsLemmas.{entries_in_order, no_rows_before}
use Rattle.msi_transform_rows.proofs.keyed.KeyedRows.into_rows.Goals as goal

pub loop-key-init : goal.loop-key-init
loop-key-init c = let given = c.into_iter-key-iterator.ensures.into_iter_gives in
    no_rows_before c.in_ok-rows.rows.items c.into_iter-key-iterator.result c.in_ok-rows.ensures.items
    ∙ given.0 ∙ entries_in_order c.self.inside.map.entries c.args.self c.self.view_is given.5
