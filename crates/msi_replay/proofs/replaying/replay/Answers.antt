use Rattle.std.proofs.Common.{Some, map}
use Rattle.std.proofs.lemmas.Result.{err_from_is_err_and}
use Rattle.msi.specs.Runs.{IsReplay, IsReplayRefused, created}
use Rattle.msi_replay.specs.Sent.{call_sent}
use Rattle.msi_replay.specs.Taken.{Ends, HoldsIfWritable, IsEndRefused, session_at}
use Rattle.msi_replay.specs.Told.{answer_told, told}
use Rattle.msi_replay.proofs.ReplayedLemmas.{at_exit, if_err, if_ok, new_refused, new_tells, replay_holds, replay_of, replay_refused}
use Rattle.msi_replay.proofs.replaying.replay.Goals as goal

pub carry_out_to_end-requires : goal.carry_out_to_end-requires
carry_out_to_end-requires c =
    new_tells c.args.kind (Some c.empty_device.result.held) c.empty_device.result.failed c.empty_device.ensures
    c.in_ok-target.target c.in_ok-target.ensures.held

pub returns-in_err-target-clause-refused : goal.returns-in_err-target-clause-refused
returns-in_err-target-clause-refused c =
    let p = err_from_is_err_and c.from_residual.result c.from_residual.ensures.1 in
    let sent = map call_sent c.args.steps.items in
    at_exit c.from_residual.result (IsReplayRefused c.args.kind sent) p.0 _ p.1 p.2
    (new_refused c.args.kind (Some c.empty_device.result.held) c.empty_device.result.failed c.empty_device.ensures sent _ c.in_err-target.ensures.refused)

pub returns-clause-ok : goal.returns-clause-ok
returns-clause-ok c =
    let sent = map call_sent c.args.steps.items in
    if_ok c.carry_out_to_end.result
    (λ r. Ends (session_at c.in_ok-target.target) sent (map (told answer_told) r.answers) r.bytes.items r.is_writable)
    (λ r. IsReplay c.args.kind sent (map (told answer_told) r.answers) r.bytes.items)
    (λ r. replay_of c.args.kind (Some c.empty_device.result.held) c.empty_device.result.failed c.empty_device.ensures
    c.in_ok-target.target c.in_ok-target.ensures.held sent (map (told answer_told) r.answers) r.bytes.items r.is_writable)
    c.carry_out_to_end.ensures.ok

pub returns-clause-writable : goal.returns-clause-writable
returns-clause-writable c =
    let sent = map call_sent c.args.steps.items in
    if_ok c.carry_out_to_end.result
    (λ r. Ends (session_at c.in_ok-target.target) sent (map (told answer_told) r.answers) r.bytes.items r.is_writable)
    (λ r. HoldsIfWritable (created c.args.kind) sent (map (told answer_told) r.answers) r.bytes.items r.is_writable)
    (λ r. replay_holds c.args.kind (Some c.empty_device.result.held) c.empty_device.result.failed c.empty_device.ensures
    c.in_ok-target.target c.in_ok-target.ensures.held sent (map (told answer_told) r.answers) r.bytes.items r.is_writable)
    c.carry_out_to_end.ensures.ok

pub returns-clause-refused : goal.returns-clause-refused
returns-clause-refused c =
    let sent = map call_sent c.args.steps.items in
    if_err c.carry_out_to_end.result (IsEndRefused (session_at c.in_ok-target.target) sent) (IsReplayRefused c.args.kind sent)
    (replay_refused c.args.kind (Some c.empty_device.result.held) c.empty_device.result.failed c.empty_device.ensures
    c.in_ok-target.target c.in_ok-target.ensures.held sent)
    c.carry_out_to_end.ensures.refused
