use Rattle.std.specs.FinMap.{entries}
use Rattle.msi_transform.proofs.SummaryLemmas.{set_made, summary_set}
use Rattle.msi_transform.proofs.transform.Transform.set_summary.Goals as goal

pub returns-clause-ok : goal.returns-clause-ok
returns-clause-ok c = let d = c.self.inside in
    summary_set d.page_id d.pool (entries d.tables) d.streams c.insert.new.self c.args.self.now c.self.view_is c.summary_key.result c.args.bytes.items c.from_vec.result
    c.in_ok-insert.ensures.ok c.summary_key.ensures c.from_vec.ensures

pub returns-clause-made : goal.returns-clause-made
returns-clause-made c = let d = c.self.inside in
    set_made d.page_id d.pool (entries d.tables) d.streams c.insert.new.self c.args.self.now c.self.view_is c.summary_key.result c.args.bytes.items c.from_vec.result
    c.in_ok-insert.ensures.ok c.summary_key.ensures c.from_vec.ensures
