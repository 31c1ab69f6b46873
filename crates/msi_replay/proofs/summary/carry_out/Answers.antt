use Rattle.msi_replay.proofs.SummaryLemmas.{clear_gives, set_gives}
use Rattle.msi_replay.proofs.summary.carry_out.Goals as goal

pub returns-in-Set-clause-ok : goal.returns-in-Set-clause-ok
returns-in-Set-clause-ok c =
    rw c.in-Set.is (set_gives c.args.summary.now c.set.new.summary c.in-Set.setting c.set.result c.set.ensures.ok
    c.set.ensures.kind c.set.ensures.err c.done.result c.done.ensures)

pub returns-in-Clear-clause-ok : goal.returns-in-Clear-clause-ok
returns-in-Clear-clause-ok c =
    rw c.in-Clear.is (clear_gives c.args.summary.now c.clear_property.new.self c.in-Clear.property c.clear_property.result
    c.clear_property.ensures.ok c.clear_property.ensures.kind c.clear_property.ensures.err c.done-in-Clear.result c.done-in-Clear.ensures)
