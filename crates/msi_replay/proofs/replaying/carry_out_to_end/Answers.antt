use Rattle.std.proofs.Common.{Some, inl, map}
use Rattle.std.proofs.lemmas.Result.{err_from_is_err_and}
use Rattle.msi_replay.specs.Sent.{call_sent}
use Rattle.msi_replay.specs.Taken.{IsEndRefused, session_at}
use Rattle.msi_replay.specs.Told.{answer_told, told}
use Rattle.msi_replay.proofs.ReplayedLemmas.{at_exit, end_refused, ends}
use Rattle.msi_replay.proofs.replaying.carry_out_to_end.Goals as goal

pub returns-in_err-answers-clause-refused : goal.returns-in_err-answers-clause-refused
returns-in_err-answers-clause-refused c =
    let p = err_from_is_err_and c.from_residual.result c.from_residual.ensures.1 in
    at_exit c.from_residual.result (IsEndRefused (session_at c.args.target) (map call_sent c.args.steps.items)) p.0 _ p.1 p.2
    (inl c.in_err-answers.ensures.kind)

pub returns-in_err-flush-clause-refused : goal.returns-in_err-flush-clause-refused
returns-in_err-flush-clause-refused c =
    let p = err_from_is_err_and c.from_residual-in_err-flush.result c.from_residual-in_err-flush.ensures.1 in
    let sent = map call_sent c.args.steps.items in
    at_exit c.from_residual-in_err-flush.result (IsEndRefused (session_at c.args.target) sent) p.0 _ p.1 p.2
    (end_refused c.args.target c.carry_out_all.new.target c.flush.new.self sent (map (told answer_told) c.in_ok-answers.answers)
    c.in_ok-answers.ensures.run c.in_ok-answers.ensures.tells _ c.in_err-flush.ensures.step)

pub returns-clause-ok : goal.returns-clause-ok
returns-clause-ok c =
    ends c.args.target c.carry_out_all.new.target c.flush.new.self (map call_sent c.args.steps.items) (map (told answer_told) c.in_ok-answers.answers)
    c.in_ok-answers.ensures.run c.in_ok-answers.ensures.tells c.in_ok-answers.ensures.fits c.in_ok-flush.ensures.step
    (Some c.into_reader.result.held) c.into_vec.result.items c.is_writable-is_writable.result c.into_reader.ensures.held c.into_vec.ensures
    c.is_writable-is_writable.ensures.exact c.is_writable-is_writable.ensures.utf8
