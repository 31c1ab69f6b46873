-- A flush between the calls of a run.
use Rattle.std.proofs.Common.{◌≡◌, ℕ, Bool, true, false, List, [], ◌∷◌, length, Some, Result, Ok, Err, refl, sym, ap, ◌∙◌, inl, inr}
use Rattle.std.specs.Prelude.{if◌then◌else◌}
use Rattle.msi_base.specs.declared.errors.ErrorKind.{ErrorKind}
use Rattle.msi_database_storage.specs.Streams.{Streams}
use Rattle.msi.specs.State.{State, parts_of}
use Rattle.msi.specs.Meaning.{IsPackage}
use Rattle.msi.specs.Calls.{Call, Answer}
use Rattle.msi.specs.Calls as calls
use Rattle.msi.specs.Steps.{Step, flushed, streams_written, written_for}
use Rattle.msi.specs.Runs.{Session, SessionStep, IsSession}
use Rattle.msi.specs.Laws.{FlushAmong, FlushEnds, FlushesAreSteps}
use Rattle.msi.proofs.writing.FlushLemmas.{flush_parts}
use Rattle.msi.proofs.calls_in_turn.StepLemmas.{written_is}
use Rattle.msi.proofs.calls_in_turn.SessionLemmas.{flushed_clean, no_answer, session_step}

-- THE STATE

-- a flush that is done changes no part, and one that is refused nothing
parts_by : (s t : State) (answer : Answer) (unwritten : Bool) (r : Result Streams ErrorKind) → IsPackage s → ((streams : Streams) → r ≡ Ok streams → streams_written s ≡ Some streams)
    → (if unwritten then flushed s r else (Ok calls.done, s)) ≡ (Ok answer, t) → parts_of t ≡ parts_of s
parts_by s t answer false r h written is = ap (λ p. parts_of p.1) (sym is)
parts_by s t answer true (Ok streams) h written is = ap (λ p. parts_of p.1) (sym is) ∙ flush_parts s streams h (written streams refl)
parts_by s t answer true (Err kind) h written is = no_answer kind (ap (λ p. p.0) is)

parts_kept : (n : ℕ) (s t : State) (answer : Answer) → IsPackage s → Step n s calls.flush (Ok answer) t → parts_of t ≡ parts_of s
parts_kept n s t answer h (inl is) = parts_by s t answer s.is_unwritten (written_for s n) h (written_is s n) is.0
parts_kept n s t answer h (inr (inl memory)) = no_answer _ (sym memory.1)
parts_kept n s t answer h (inr (inr fault)) = no_answer _ (sym fault.1)

refused_by : (s t : State) (kind : ErrorKind) (unwritten : Bool) (r : Result Streams ErrorKind) → (if unwritten then flushed s r else (Ok calls.done, s)) ≡ (Err kind, t) → t ≡ s
refused_by s t kind false r is = no_answer kind (sym (ap (λ p. p.0) is))
refused_by s t kind true (Ok streams) is = no_answer kind (sym (ap (λ p. p.0) is))
refused_by s t kind true (Err other) is = sym (ap (λ p. p.1) is)

refused_kept : (n : ℕ) (s t : State) (kind : ErrorKind) → Step n s calls.flush (Err kind) t → t ≡ s
refused_kept n s t kind (inl is) = refused_by s t kind s.is_unwritten (written_for s n) is.0
refused_kept n s t kind (inr (inl memory)) = memory.2
refused_kept n s t kind (inr (inr fault)) = fault.2

-- THE SESSION

pub flush_ends : (x y : Session) (answer : Result Answer ErrorKind) → IsSession x → IsSession y → SessionStep x calls.flush answer y → FlushEnds x answer y
flush_ends x y (Err kind) h k step = refused_kept (length x.held) x.state y.state kind step.0
flush_ends x y (Ok answer) h k step =
    let clean = flushed_clean x y answer step in
    record {
      written = clean;
      parts = parts_kept (length x.held) x.state y.state answer h.is_package step.0;
      holds = k.held clean;
    }

-- THE RUN

-- one call more before it
later_by : (x y new : Session) (c : Call) (a : Result Answer ErrorKind) (earlier later : List Call) (answers : List (Result Answer ErrorKind))
    → SessionStep x c a y → FlushAmong y earlier later answers new → FlushAmong x (c ∷ earlier) later (a ∷ answers) new
later_by x y new c a earlier later answers step f = record {
  found = f.found;
  left = f.left;
  first = a ∷ f.first;
  answer = f.answer;
  others = f.others;
  answered = ap (λ (rest : List (Result Answer ErrorKind)). a ∷ rest) f.answered;
  before = (y, step, f.before);
  flush = f.flush;
  ends = f.ends;
  is_session = f.is_session;
  after = f.after;
}

pub flushes_are_steps : FlushesAreSteps
flushes_are_steps old new [] later [] h fits run = absurd run
flushes_are_steps old new [] later (a ∷ answers) h fits run =
    let left = session_step old run.0 calls.flush a tt run.1 h in record {
      found = old;
      left = run.0;
      first = [];
      answer = a;
      others = answers;
      answered = refl;
      before = refl;
      flush = run.1;
      ends = flush_ends old run.0 a h left run.1;
      is_session = left;
      after = run.2;
    }
flushes_are_steps old new (c ∷ earlier) later [] h fits run = absurd run
flushes_are_steps old new (c ∷ earlier) later (a ∷ answers) h fits run =
    later_by old run.0 new c a earlier later answers run.1
    (flushes_are_steps run.0 new earlier later answers (session_step old run.0 c a fits.0 run.1 h) fits.1 run.2)
