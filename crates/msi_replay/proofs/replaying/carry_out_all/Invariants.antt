use Rattle.std.proofs.Common.{map}
use Rattle.std.specs.List.{AllByRecursion}
use Rattle.msi.specs.Runs.{FitsCall, Run}
use Rattle.msi_replay.specs.Sent.{call_sent}
use Rattle.msi_replay.specs.Taken.{Tells, session_at}
use Rattle.msi_replay.specs.Told.{answer_told, told}
use Rattle.msi_replay.proofs.replaying.carry_out_all.Given as goal

abbrev pub invariant-loop-call : goal.invariant-loop-call
invariant-loop-call l = record {
  run : Run (session_at l.initial.target) (map call_sent l.yielded) (map (told answer_told) l.answers.items)
      (session_at l.target);
  fits : AllByRecursion FitsCall (map call_sent l.yielded);
  tells : Tells l.target;
}
