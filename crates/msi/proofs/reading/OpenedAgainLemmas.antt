-- A package that was created is opened again after calls and a flush.
use Rattle.std.proofs.Common.{Ok, subst}
use Rattle.msi.specs.State.{parts_of}
use Rattle.msi.specs.Meaning.{Means}
use Rattle.msi.specs.Calls as calls
use Rattle.msi.specs.Runs.{IsSession}
use Rattle.msi.specs.Laws.{CreatedAreOpened}
use Rattle.msi.proofs.calls_in_turn.FlushAmongLemmas.{flush_ends}
use Rattle.msi.proofs.reading.OpeningLemmas.{refused_mean_nothing}
use Rattle.msi.proofs.calls_in_turn.ReplayLemmas.{created_is_session}
use Rattle.msi.proofs.calls_in_turn.SessionLemmas.{runs_keep_sessions, session_step}

pub created_are_opened : CreatedAreOpened
created_are_opened k n start last left sent answers made fits run flush writable =
    let first = created_is_session k n start made in
    let before : IsSession last = runs_keep_sessions start last sent answers first.0 fits run in
    let after : IsSession left = session_step last left calls.flush (Ok calls.done) tt flush before in
    let flushed = flush_ends last left (Ok calls.done) before after flush in
    let holds = flushed.holds writable in
    record {
      means = subst (Means left.held) flushed.parts holds.means;
      opens = holds.opens;
      unrefused = λ kind refused. refused_mean_nothing left.held kind (parts_of left.state) refused holds.means;
    }
