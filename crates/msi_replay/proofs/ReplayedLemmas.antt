-- A package, new or opened, calls on it, and a last flush are a replay.
use Rattle.std.proofs.Common.{◌≡◌, ℕ, suc, ◌<◌, Bool, true, false, List, [], ◌∷◌, length, Option, Some, None, Result, Ok, Err, refl, sym, ap, subst, ◌∙◌, inl, inr}
use Rattle.std.specs.Prelude.{◌↔◌, IfErr, IfOk, IfSome, IsTrue, is_some, slice_index, unwrap_or, if◌then◌else◌, ◌⊎◌}
use Rattle.std.specs.List.{AllByRecursion}
use Rattle.msi.specs.Text.ErrorKind.{ErrorKind}
use Rattle.msi.specs.Text.ErrorKind.TheVariants.{Io, OutOfMemory}
use Rattle.msi.specs.Container.Held.{Held, all_bytes, bytes_told, from_first}
use Rattle.msi.proofs.RefusedLemmas.{same_Ok}
use Rattle.msi.specs.Database.Streams.{Streams}
use Rattle.msi.specs.declared.kinds.PackageType.{PackageType}
use Rattle.msi.specs.State.{State}
use Rattle.msi.specs.Calls.{Call, Answer}
use Rattle.msi.specs.Calls as calls
use Rattle.msi.specs.Steps.{Step, flushed, written_for}
use Rattle.msi.specs.Meaning.{OpensTo}
use Rattle.msi.specs.Opening.{OpensSource}
use Rattle.msi.specs.Laws.{AreBytes}
use Rattle.msi.specs.Runs.{FitsCall, IsReplay, IsReplayOver, IsReplayOverRefused, IsReplayRefused, IsSession, Run, Session, SessionStep, TextsAreWritable, created, opened, unwritten}
use Rattle.msi.specs.Writable.{HasUtf8Pages}
use Rattle.msi.specs.Whole.{Whole}
use Rattle.msi.specs.Flushing.{FlushStep, IsCreateRefused, IsCreated, session_of, told}
use Rattle.msi.proofs.writing.FlushStepLemmas.{flush_session}
use Rattle.msi.proofs.calls_in_turn.ReplayLemmas.{created_is_session, created_over_nothing, replays_mean, replays_over_mean}
use Rattle.msi.proofs.reading.OpenedLemmas.{opened_is_session}
use Rattle.msi.proofs.calls_in_turn.SessionLemmas.{flushed_is_held, runs_keep_sessions}
use Rattle.msi_replay.specs.Taken.{Ends, HoldsIfWritable, IsEndRefused, Tells, session_at}

-- THE DEVICE TELLS ITS BYTES

at_told : (w : Whole) (bytes : List ℕ) → bytes_told w.held ≡ Some bytes → session_at w ≡ session_of w bytes
at_told w bytes e = ap (λ (o : Option (List ℕ)). session_of w (unwrap_or o [])) e

tells_some : (w : Whole) (bytes : List ℕ) → bytes_told w.held ≡ Some bytes → Tells w
tells_some w bytes e = ap (is_some {T = List ℕ}) e

-- a flush is a step of the session
record Flushes (old : Whole) (answer : Result Answer ErrorKind) (new : Whole) : Type 0 where
  step : SessionStep (session_at old) calls.flush answer (session_at new)
  tells : Tells new

flush_told : (old new : Whole) (answer : Result Answer ErrorKind) (o : Option (List ℕ)) → bytes_told old.held ≡ o → is_some o ≡ true
    → FlushStep old answer new → Flushes old answer new
flush_told old new answer None is some f = absurd cc
flush_told old new answer (Some bytes) is some f =
    let s = flush_session old new bytes answer is f in
    record {
      step = subst (λ (x : Session). SessionStep x calls.flush answer (session_at new)) (sym (at_told old bytes is))
          (subst (λ (y : Session). SessionStep (session_of old bytes) calls.flush answer y) (sym (at_told new s.0 s.1)) s.2);
      tells = tells_some new s.0 s.1;
    }

pub flush_step : (old new : Whole) (answer : Result Answer ErrorKind) → Tells old → FlushStep old answer new
    → SessionStep (session_at old) calls.flush answer (session_at new)
flush_step old new answer tells f = (flush_told old new answer (bytes_told old.held) refl tells f).step

pub flush_tells : (old new : Whole) (answer : Result Answer ErrorKind) → Tells old → FlushStep old answer new → Tells new
flush_tells old new answer tells f = (flush_told old new answer (bytes_told old.held) refl tells f).tells

-- THE LAST FLUSH

refused_for : (s t : State) (b : Bool) (r : Result Streams ErrorKind) (error : ErrorKind)
    → ◌≡◌ {A = Result Answer ErrorKind × State} (if b then flushed s r else (Ok calls.done, s)) (Err error, t) → r ≡ Err error
refused_for s t true (Ok streams) error e = let f : ◌≡◌ {A = Result Answer ErrorKind} (Ok calls.done) (Err error) = ap (λ p. p.0) e in absurd cc
refused_for s t true (Err kind) error e = let f : ◌≡◌ {A = Result Answer ErrorKind} (Err kind) (Err error) = ap (λ p. p.0) e in cc
refused_for s t false r error e = let f : ◌≡◌ {A = Result Answer ErrorKind} (Ok calls.done) (Err error) = ap (λ p. p.0) e in absurd cc

module _ (start last left : Whole) (sent : List Call) (answers : List (Result Answer ErrorKind))
    (run : Run (session_at start) sent answers (session_at last)) (tells : Tells last) where
  pub ends : AllByRecursion FitsCall sent → FlushStep last (Ok calls.done) left
      → (held : Option Held) (bytes : List ℕ) (b : Bool) → held ≡ left.held → bytes ≡ unwrap_or (bytes_told held) []
      → IsTrue b ↔ TextsAreWritable left.state → (HasUtf8Pages left.state → IsTrue b) → Ends (session_at start) sent answers bytes b
  ends fits f held bytes b is e exact utf8 = record {
    last = session_at last;
    left = session_at left;
    fits = fits;
    run = run;
    flush = flush_step last left (Ok calls.done) tells f;
    held = e ∙ ap (λ (h : Option Held). unwrap_or (bytes_told h) []) is;
    exact = exact;
    utf8 = utf8;
  }

  refused_by : (n : ℕ) (error : ErrorKind) → n ≡ length (session_at last).held → Step n last.state calls.flush (Err error) left.state
      → IsEndRefused (session_at start) sent error
  refused_by n error is (inl e) = inr (inr (
    answers,
    session_at last,
    run,
    ap (λ (m : ℕ). written_for last.state m) (sym is)
        ∙ refused_for last.state left.state last.state.is_unwritten (written_for last.state n) error e.0,
  ))
  refused_by n error is (inr (inl memory)) = let e = memory.1 in inl cc
  refused_by n error is (inr (inr fault)) = let e = fault.1 in inr (inl cc)

  pub end_refused : (error : ErrorKind) → FlushStep last (Err error) left → IsEndRefused (session_at start) sent error
  end_refused error f = refused_by (length (session_at last).held) error refl (flush_step last left (Err error) tells f).0

-- what is held where each text can be written
held_if : (start : Session) (sent : List Call) (answers : List (Result Answer ErrorKind)) (bytes : List ℕ) (b : Bool) → IsSession start
    → Ends start sent answers bytes b → HoldsIfWritable start sent answers bytes b
held_if start sent answers bytes b first e =
    let before = runs_keep_sessions start e.last sent answers first e.fits e.run in
    record { ended = e; holds = λ true. (flushed_is_held e.last e.left before e.flush).1 (e.exact.0 true) }

-- A NEW PACKAGE

module _ (kind : PackageType) (held : Option Held) (failed : Bool) (empty : bytes_told held ≡ Some []) where
  new_of : (made : Whole) → IsCreated kind (told held failed) made → IsCreated kind (record { bytes = Some []; failed = failed }) made
  new_of made is = subst (λ (o : Option (List ℕ)). IsCreated kind (record { bytes = o; failed = failed }) made) empty is

  pub new_tells : (made : Whole) → IsCreated kind (told held failed) made → Tells made
  new_tells made is = let s = new_of made is in tells_some made s.0 s.1

  pub new_session : (made : Whole) → IsCreated kind (told held failed) made → session_at made ≡ created kind
  new_session made is = let s = new_of made is in
      at_told made s.0 s.1 ∙ same_Ok _ _ (sym s.2 ∙ created_over_nothing kind)

  pub new_refused : (sent : List Call) (error : ErrorKind) → IsCreateRefused kind (told held failed) error → IsReplayRefused kind sent error
  new_refused sent error (inl memory) = inl memory
  new_refused sent error (inr (inl fault)) = inr (inl fault)
  new_refused sent error (inr (inr (n, many, written))) =
      let none : n ≡ 0 = subst (λ (o : Option (List ℕ)). IfSome o (λ bytes. n ≡ length bytes)) empty many in
      inr (inr (inl (ap (λ (m : ℕ). written_for (unwritten kind) m) (sym none) ∙ written)))

  pub replay_of : (made : Whole) → IsCreated kind (told held failed) made → (sent : List Call) (answers : List (Result Answer ErrorKind)) (bytes : List ℕ) (b : Bool)
      → Ends (session_at made) sent answers bytes b → IsReplay kind sent answers bytes
  replay_of made is sent answers bytes b ended =
      let e = subst (λ (s : Session). Ends s sent answers bytes b) (new_session made is) ended in
      subst (λ (b : List ℕ). IsReplay kind sent answers b) (sym e.held) (replays_mean kind sent answers e.last e.left e.fits e.run e.flush)

  pub replay_holds : (made : Whole) → IsCreated kind (told held failed) made → (sent : List Call) (answers : List (Result Answer ErrorKind)) (bytes : List ℕ) (b : Bool)
      → Ends (session_at made) sent answers bytes b → HoldsIfWritable (created kind) sent answers bytes b
  replay_holds made is sent answers bytes b ended =
      held_if (created kind) sent answers bytes b (created_is_session kind 0 (created kind) (created_over_nothing kind)).0
      (subst (λ (s : Session). Ends s sent answers bytes b) (new_session made is) ended)

  later_refused : (sent : List Call) (error : ErrorKind) → IsEndRefused (created kind) sent error → IsReplayRefused kind sent error
  later_refused sent error (inl memory) = inl memory
  later_refused sent error (inr (inl fault)) = inr (inl fault)
  later_refused sent error (inr (inr flushed)) = inr (inr (inr flushed))

  pub replay_refused : (made : Whole) → IsCreated kind (told held failed) made → (sent : List Call) (error : ErrorKind)
      → IsEndRefused (session_at made) sent error → IsReplayRefused kind sent error
  replay_refused made is sent error refused =
      later_refused sent error (subst (λ (s : Session). IsEndRefused s sent error) (new_session made is) refused)

-- AN OPENED PACKAGE

-- bytes as a function that is handed them knows them
pub are_bytes : (bytes : List ℕ) → ((i : ℕ) → slice_index bytes i < 256) → AreBytes bytes
are_bytes [] small = tt
are_bytes (b ∷ bytes) small = (small 0, are_bytes bytes (λ i. small (suc i)))

module _ (bytes : List ℕ) (stored : Held) (first : stored ≡ from_first bytes) where
  all_told : bytes_told (Some stored) ≡ Some bytes
  all_told = ap (λ (h : Held). bytes_told (Some h)) first

  opens_all : (answer : Result State ErrorKind) → OpensSource (Some stored) answer → OpensTo bytes answer
  opens_all answer (read, all, opens) = subst (λ (b : List ℕ). OpensTo b answer) (all ∙ ap all_bytes first) opens

  module _ (made : Whole) (same : bytes_told made.held ≡ bytes_told (Some stored)) where
    pub over_tells : Tells made
    over_tells = tells_some made bytes (same ∙ all_told)

    module _ (unfailed : made.failed ≡ false) (source : OpensSource (Some stored) (Ok made.state)) where
      over_session : session_at made ≡ opened bytes made.state
      over_session = at_told made bytes (same ∙ all_told) ∙ ap (λ (b : Bool). record { state = made.state; held = bytes; failed = b }) unfailed

      pub replay_over_of : (sent : List Call) (answers : List (Result Answer ErrorKind)) (written : List ℕ) (b : Bool) → AreBytes bytes
          → Ends (session_at made) sent answers written b → IsReplayOver bytes sent answers written
      replay_over_of sent answers written b small ended =
          let e = subst (λ (s : Session). Ends s sent answers written b) over_session ended in
          subst (λ (b : List ℕ). IsReplayOver bytes sent answers b) (sym e.held)
          (replays_over_mean bytes made.state sent answers e.last e.left small (opens_all (Ok made.state) source) e.fits e.run e.flush)

      pub replay_over_holds : (sent : List Call) (answers : List (Result Answer ErrorKind)) (written : List ℕ) (b : Bool) → AreBytes bytes
          → Ends (session_at made) sent answers written b
          → (start : State) × OpensTo bytes (Ok start) × HoldsIfWritable (opened bytes start) sent answers written b
      replay_over_holds sent answers written b small ended =
          let opens = opens_all (Ok made.state) source in (
            made.state,
            opens,
            held_if (opened bytes made.state) sent answers written b (opened_is_session bytes made.state small opens)
                (subst (λ (s : Session). Ends s sent answers written b) over_session ended),
          )

      later_over_refused : (sent : List Call) (error : ErrorKind) → IsEndRefused (opened bytes made.state) sent error → IsReplayOverRefused bytes sent error
      later_over_refused sent error (inl memory) = inl memory
      later_over_refused sent error (inr (inl fault)) = inr (inl fault)
      later_over_refused sent error (inr (inr (answers, last, run, written))) =
          inr (inr (inr (made.state, answers, last, opens_all (Ok made.state) source, run, written)))

      pub replay_over_refused : (sent : List Call) (error : ErrorKind) → IsEndRefused (session_at made) sent error → IsReplayOverRefused bytes sent error
      replay_over_refused sent error refused =
          later_over_refused sent error (subst (λ (s : Session). IsEndRefused s sent error) over_session refused)

  pub open_refused : (sent : List Call) (error : ErrorKind) → (error ≡ Io) ⊎ (error ≡ OutOfMemory) ⊎ OpensSource (Some stored) (Err error)
      → IsReplayOverRefused bytes sent error
  open_refused sent error (inl fault) = inr (inl fault)
  open_refused sent error (inr (inl memory)) = inl memory
  open_refused sent error (inr (inr source)) = inr (inr (inl (opens_all (Err error) source)))

-- WHAT IS RETURNED

pub if_ok : {X : Type 0} (r : Result X ErrorKind) (P Q : X → Type 0) → ((x : X) → P x → Q x) → IfOk r P → IfOk r Q
if_ok (Ok x) P Q f p = f x p
if_ok (Err error) P Q f p = tt

pub if_err : {X : Type 0} (r : Result X ErrorKind) (P Q : ErrorKind → Type 0) → ((error : ErrorKind) → P error → Q error) → IfErr r P → IfErr r Q
if_err (Ok x) P Q f p = tt
if_err (Err error) P Q f p = f error p

-- what the exit of a `?` returns
pub at_exit : {X : Type 0} (r : Result X ErrorKind) (P : ErrorKind → Type 0) (returned error : ErrorKind) → r ≡ Err returned → returned ≡ error
    → P error → IfErr r P
at_exit {X} r P returned error is same p = subst (λ (x : Result X ErrorKind). IfErr x P) (sym is) (subst P (sym same) p)
