use Rattle.std.proofs.Common.{map}
use Rattle.msi_replay.specs.Told.{summary_answer, told}
use Rattle.msi_replay.proofs.LendingLemmas.{asked_takes}
use Rattle.msi_replay.proofs.looking.ask_summary.Goals as goal

pub returns-clause-ok : goal.returns-clause-ok
returns-clause-ok c =
    asked_takes c.args.target.now c.summary_info.result.now c.args.questions (map (told summary_answer) c.in_ok-answers.answers)
    c.summary_info.ensures c.in_ok-answers.ensures.ok
