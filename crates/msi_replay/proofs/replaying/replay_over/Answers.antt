use Rattle.std.proofs.Common.{Ok, map, subst}
use Rattle.std.proofs.lemmas.Result.{err_from_is_err_and}
use Rattle.msi.specs.State.{State}
use Rattle.msi.specs.Meaning.{OpensTo}
use Rattle.msi.specs.Laws.{AreBytes}
use Rattle.msi.specs.Runs.{IsReplayOver, IsReplayOverRefused, opened}
use Rattle.msi_replay.specs.Sent.{call_sent}
use Rattle.msi_replay.specs.Taken.{Ends, HoldsIfWritable, IsEndRefused, session_at}
use Rattle.msi_replay.specs.Told.{answer_told, told}
use Rattle.msi_replay.proofs.ReplayedLemmas.{at_exit, if_err, if_ok, open_refused, over_tells, replay_over_holds, replay_over_of, replay_over_refused}
use Rattle.msi_replay.proofs.replaying.replay_over.Goals as goal

pub carry_out_to_end-requires : goal.carry_out_to_end-requires
carry_out_to_end-requires c =
    over_tells c.args.bytes.items c.from_vec.result.held c.from_vec.ensures.held c.in_ok-target.target c.in_ok-target.ensures.bytes

pub returns-in_err-target-clause-refused : goal.returns-in_err-target-clause-refused
returns-in_err-target-clause-refused c =
    let p = err_from_is_err_and c.from_residual.result c.from_residual.ensures.1 in
    let sent = map call_sent c.args.steps.items in
    at_exit c.from_residual.result (IsReplayOverRefused c.args.bytes.items sent) p.0 _ p.1 p.2
    (open_refused c.args.bytes.items c.from_vec.result.held c.from_vec.ensures.held sent _ c.in_err-target.ensures.kind)

pub returns-clause-ok : goal.returns-clause-ok
returns-clause-ok c =
    let sent = map call_sent c.args.steps.items in
    if_ok c.carry_out_to_end.result
    (λ r. Ends (session_at c.in_ok-target.target) sent (map (told answer_told) r.answers) r.bytes.items r.is_writable)
    (λ r. IsReplayOver c.args.bytes.items sent (map (told answer_told) r.answers) r.bytes.items)
    (λ r. replay_over_of c.args.bytes.items c.from_vec.result.held c.from_vec.ensures.held c.in_ok-target.target c.in_ok-target.ensures.bytes
    c.in_ok-target.ensures.failed c.in_ok-target.ensures.ok sent (map (told answer_told) r.answers) r.bytes.items r.is_writable (subst AreBytes c.as_slice.ensures.value c.look_at_bytes.ensures))
    c.carry_out_to_end.ensures.ok

pub returns-clause-writable : goal.returns-clause-writable
returns-clause-writable c =
    let sent = map call_sent c.args.steps.items in
    if_ok c.carry_out_to_end.result
    (λ r. Ends (session_at c.in_ok-target.target) sent (map (told answer_told) r.answers) r.bytes.items r.is_writable)
    (λ r. (start : State) × OpensTo c.args.bytes.items (Ok start)
    × HoldsIfWritable (opened c.args.bytes.items start) sent (map (told answer_told) r.answers) r.bytes.items r.is_writable)
    (λ r. replay_over_holds c.args.bytes.items c.from_vec.result.held c.from_vec.ensures.held c.in_ok-target.target c.in_ok-target.ensures.bytes
    c.in_ok-target.ensures.failed c.in_ok-target.ensures.ok sent (map (told answer_told) r.answers) r.bytes.items r.is_writable (subst AreBytes c.as_slice.ensures.value c.look_at_bytes.ensures))
    c.carry_out_to_end.ensures.ok

pub returns-clause-refused : goal.returns-clause-refused
returns-clause-refused c =
    let sent = map call_sent c.args.steps.items in
    if_err c.carry_out_to_end.result (IsEndRefused (session_at c.in_ok-target.target) sent) (IsReplayOverRefused c.args.bytes.items sent)
    (replay_over_refused c.args.bytes.items c.from_vec.result.held c.from_vec.ensures.held c.in_ok-target.target c.in_ok-target.ensures.bytes
    c.in_ok-target.ensures.failed c.in_ok-target.ensures.ok sent)
    c.carry_out_to_end.ensures.refused
