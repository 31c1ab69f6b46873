use Rattle.std.proofs.Common.{map}
use Rattle.msi.specs.Lent.{RunsTo, summary_outcome, summary_wants_memory}
use Rattle.msi.specs.Calls as calls
use Rattle.msi_replay.specs.Told.{summary_answer, told}
use Rattle.msi_replay.proofs.summary.ask_all.Given as goal

abbrev pub invariant-loop-question : goal.invariant-loop-question
invariant-loop-question l = RunsTo summary_outcome summary_wants_memory l.summary (map calls.ask l.yielded)
    (map (told summary_answer) l.answers.items) l.summary
