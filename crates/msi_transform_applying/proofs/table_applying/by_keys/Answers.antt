use Rattle.std.proofs.Common.{◌∙◌, ap}
use Rattle.std.specs.FinMap.{entries}
use Rattle.msi_transform_applying.proofs.RowsPutLemmas.{last_over, over_none, put_over}
use Rattle.msi_transform_applying.proofs.table_applying.by_keys.Goals as goal

pub loop-key-init : goal.loop-key-init
loop-key-init c = ap (put_over c.args.rows.items) c.new-keyed.ensures ∙ over_none c.args.rows.items

pub loop-key-preserved : goal.loop-key-preserved
loop-key-preserved c =
    let step = last_over c.pop.new.self.items c.in-Some.key c.in-Some.row (entries c.loop-key.keyed) in
    cc (c.in_ok-insert.ensures.ok, c.in-Some.ensures.items, c.loop-key.invariant)
