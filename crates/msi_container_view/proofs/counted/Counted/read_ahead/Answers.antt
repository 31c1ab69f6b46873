use Rattle.std.proofs.Common.{rules, ◌≡◌, ◌-◌, drop, Ok, length}
use Rattle.msi_container_view.proofs.FillLemmas.{read_more_held, moved_further, read_same_held}
use Rattle.msi_container_view.proofs.counted.Counted.read_ahead.Goals as goal

pub loop-filled-preserved : goal.loop-filled-preserved
loop-filled-preserved g c =
    let took : c.read.result ≡ Ok c.in_ok-count.count = search rules in
    record {
      within = search rules;
      read = read_more_held c.args.self.now.held _ c.loop-filled.filled c.loop-filled.buf _ _ _ c.loop-filled.invariant.within (search rules) c.loop-filled.invariant.held c.loop-filled.invariant.read (rw took at c.read.ensures.read);
      held = moved_further c.args.self.now.held _ _ c.loop-filled.filled _ c.loop-filled.invariant.held (rw took at c.read.ensures.held);
      told = search rules;
      counted = search rules;
      count = search rules;
    }

pub returns-then-count-eq0-clause-read : goal.returns-then-count-eq0-clause-read
returns-then-count-eq0-clause-read g c =
    read_same_held c.args.self.now.held c.loop-filled.filled c.loop-filled.buf c.read.new.buf (drop (length c.loop-filled.buf - c.loop-filled.filled) (drop c.loop-filled.filled c.loop-filled.buf)) c.loop-filled.invariant.within c.loop-filled.invariant.read
