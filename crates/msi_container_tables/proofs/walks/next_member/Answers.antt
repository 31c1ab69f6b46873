use Rattle.std.proofs.Common.{arith, ◌∙◌, sym}
use Rattle.msi_container_format.specs.Container.{successor}
use Rattle.msi_container_tables.proofs.chains.ChainStepLemmas.{follower_none, follower_last, step_none, step_last}
use Rattle.msi_container_tables.proofs.walks.next_member.Goals as goal

pub returns-in-None-clause-value : goal.returns-in-None-clause-value
returns-in-None-clause-value c =
    follower_none (successor c.args.table.now.bytes.now c.args.table.now.sectors.now) c.args.start c.args.so_far.now c.in-None.ensures.value

pub returns-in-None-clause-step : goal.returns-in-None-clause-step
returns-in-None-clause-step c = omega (arith, step_none c.args.so_far.now c.in-None.ensures.value)

pub returns-in-Some-successor-clause-value : goal.returns-in-Some-successor-clause-value
returns-in-Some-successor-clause-value c =
    follower_last (successor c.args.table.now.bytes.now c.args.table.now.sectors.now) c.args.start c.in-Some.last.now c.args.so_far.now c.in-Some.ensures.value
    ∙ sym c.in-Some-successor.ensures.value

pub returns-in-Some-successor-clause-step : goal.returns-in-Some-successor-clause-step
returns-in-Some-successor-clause-step c = omega (arith, c.in-Some-successor.ensures.step, step_last _ c.args.so_far.now c.in-Some.ensures.value)

pub returns-in-None-successor-clause-value : goal.returns-in-None-successor-clause-value
returns-in-None-successor-clause-value c = (
  c.new.ensures,
  follower_last (successor c.args.table.now.bytes.now c.args.table.now.sectors.now) c.args.start c.in-Some.last.now c.args.so_far.now c.in-Some.ensures.value
      ∙ sym c.in-None-successor.ensures.value,
)

pub returns-in-None-successor-clause-step : goal.returns-in-None-successor-clause-step
returns-in-None-successor-clause-step c = omega (arith, c.in-None-successor.ensures.step, step_last _ c.args.so_far.now c.in-Some.ensures.value)
