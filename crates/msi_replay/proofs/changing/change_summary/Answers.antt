use Rattle.std.proofs.Common.{map, refl}
use Rattle.msi_replay.specs.Sent.{summary_call_sent}
use Rattle.msi_replay.specs.Told.{summary_answer, told}
use Rattle.msi_replay.proofs.LendingLemmas.{summary_takes}
use Rattle.msi_replay.proofs.changing.change_summary.Goals as goal

pub returns-in_ok-answers-in-Ok-clause-ok : goal.returns-in_ok-answers-in-Ok-clause-ok
returns-in_ok-answers-in-Ok-clause-ok c =
    summary_takes c.args.target.now _ (map summary_call_sent c.args.steps) c.in-Ok.summary.now c.carry_out_all.new.summary
    (map (told summary_answer) c.in_ok-answers-in-Ok.answers) c.in-Ok.ensures.accepted c.in-Ok.ensures.value
    c.in_ok-answers-in-Ok.ensures.ok refl
