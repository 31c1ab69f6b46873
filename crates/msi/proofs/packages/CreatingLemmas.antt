-- What a new package is once it is flushed.
use Rattle.std.proofs.Common.{◌≡◌, ℕ, Bool, true, false, List, length, Option, Some, None, Result, Ok, Err, refl, sym, ap, subst, ◌∙◌, inl, inr}
use Rattle.std.specs.Prelude.{IfErr, IfSome}
use Rattle.std.proofs.lemmas.Option.{same_Some}
use Rattle.msi_base.specs.declared.errors.ErrorKind.{ErrorKind}
use Rattle.msi_base.specs.declared.errors.ErrorKind.TheVariants.{Io, OutOfMemory}
use Rattle.msi_summary.specs.Properties.{Properties}
use Rattle.msi_summary.specs.Summary.{new_summary}
use Rattle.msi_base.specs.Refusals.{◌>>=◌}
use Rattle.msi_container_device.specs.Held.{Held, bytes_told}
use Rattle.msi_container_write.specs.Layout.{layout}
use Rattle.msi_database.specs.Database.{is_sound}
use Rattle.msi_database_storage.specs.Kept.{Kept}
use Rattle.msi_database_storage.specs.Streams.{Streams}
use Rattle.msi_database.specs.Fresh as databases
use Rattle.msi_database.proofs.opening.FreshLemmas.{fresh_is_kept}
use Rattle.msi.specs.declared.kinds.PackageType.{PackageType}
use Rattle.msi.specs.Kinds.{title_of}
use Rattle.msi.specs.State.{State}
use Rattle.msi.specs.Calls.{Answer}
use Rattle.msi.specs.Calls as calls
use Rattle.msi.specs.Steps.{Step, as_written, contents_of, flushed, written_for}
use Rattle.msi.specs.Runs.{Session, SessionStep, created_over, fresh, unwritten}
use Rattle.msi.specs.Whole.{IsHeld, Whole, state_of, with_open}
use Rattle.msi.specs.Flushing.{AreSoMany, FlushStep, IsCreateRefused, IsCreated, over_device, session_of, told}
use Rattle.msi.proofs.packages.FreshLemmas.{fresh_written}
use Rattle.msi.proofs.calls_in_turn.StepLemmas.{written_is}
use Rattle.msi.proofs.writing.FlushStepLemmas.{flush_session}

-- THE STATE

record IsDone (s : State) (r : Result Streams ErrorKind) (t : State) : Type 0 where
  streams : Streams
  written : r ≡ Ok streams
  left : as_written s streams ≡ t

flushed_done : (s t : State) (r : Result Streams ErrorKind) (a : Answer) → flushed s r ≡ (Ok a, t) → IsDone s r t
flushed_done s t (Ok streams) a e = record { streams = streams; written = refl; left = ap (λ p. p.1) e }
flushed_done s t (Err kind) a e = let f : ◌≡◌ {A = Result Answer ErrorKind} (Err kind) (Ok a) = ap (λ p. p.0) e in absurd cc

flushed_failed : (s t : State) (r : Result Streams ErrorKind) (error : ErrorKind) → flushed s r ≡ (Err error, t) → r ≡ Err error
flushed_failed s t (Ok streams) error e = let f : ◌≡◌ {A = Result Answer ErrorKind} (Ok calls.done) (Err error) = ap (λ p. p.0) e in absurd cc
flushed_failed s t (Err kind) error e = let f : ◌≡◌ {A = Result Answer ErrorKind} (Err kind) (Err error) = ap (λ p. p.0) e in cc

no_answer : {P : Type 0} (kind : ErrorKind) (a : Answer) → ◌≡◌ {A = Result Answer ErrorKind} (Ok a) (Err kind) → P
no_answer kind a e = absurd cc

module _ (k : PackageType) (n : ℕ) (t : State) where
  step_done : Step n (unwritten k) calls.flush (Ok calls.done) t → IsDone (unwritten k) (written_for (unwritten k) n) t
  step_done (inl e) = flushed_done (unwritten k) t (written_for (unwritten k) n) calls.done e.0
  step_done (inr (inl memory)) = no_answer OutOfMemory calls.done memory.1
  step_done (inr (inr fault)) = no_answer Io calls.done fault.1

  is_fresh : IsDone (unwritten k) (written_for (unwritten k) n) t → t ≡ fresh k
  is_fresh d =
      sym d.left ∙ ap (as_written (unwritten k)) (same_Some d.streams (fresh k).kept.streams (sym (written_is (unwritten k) n d.streams d.written) ∙ fresh_written k))

  step_failed : (error : ErrorKind) (o : Option (List ℕ)) (failed : Bool) → AreSoMany n (record { bytes = o; failed = failed })
      → Step n (unwritten k) calls.flush (Err error) t → IsCreateRefused k (record { bytes = o; failed = failed }) error
  step_failed error o failed many (inl e) = inr (inr (n, many, flushed_failed (unwritten k) t (written_for (unwritten k) n) error e.0))
  step_failed error o failed many (inr (inl memory)) = let e = memory.1 in inl cc
  step_failed error o failed many (inr (inr fault)) = let e = fault.1 in inr (inl cc)

-- THE DEVICE

created_from : (k : PackageType) (bytes : List ℕ) (failed : Bool) (y : Session) → SessionStep (record { state = unwritten k; held = bytes; failed = failed }) calls.flush (Ok calls.done) y
    → created_over k (length bytes) ≡ Ok y
created_from k bytes failed y step =
    let n : ℕ = length bytes in
    let d = step_done k n y.state step.0 in
    let held : layout (contents_of (unwritten k) d.streams) n ≡ y.held = ap (λ (s : State). layout (contents_of s s.kept.streams) n) d.left ∙ sym step.1.0 in
    let same : ◌≡◌ {A = Session} (record { state = as_written (unwritten k) d.streams; held = layout (contents_of (unwritten k) d.streams) n; failed = false }) y =
    (λ i. record { state = d.left i; held = held i; failed = sym step.1.1 i }) in
    ap (λ (r : Result Streams ErrorKind). r >>= λ streams. Ok (record { state = as_written (unwritten k) streams; held = layout (contents_of (unwritten k) streams) n; failed = false })) d.written
    ∙ ap (λ (s : Session). Ok s) same

module _ (k : PackageType) (held : Option Held) (failed pending : Bool) (new : Whole) where
  abbrev before : Whole
  before = over_device (unwritten k) held failed pending

  pub made_state : FlushStep before (Ok calls.done) new → new.state ≡ fresh k
  made_state w = is_fresh k w.earlier_len new.state (step_done k w.earlier_len new.state w.step)

  pub made_held : FlushStep before (Ok calls.done) new → IsCreated k (told held failed) new
  made_held w = by_bytes (bytes_told held) refl
    where
      by_bytes : (o : Option (List ℕ)) → bytes_told held ≡ o → IfSome o (λ bytes. (left : List ℕ) × (bytes_told new.held ≡ Some left) × (created_over k (length bytes) ≡ Ok (session_of new left)))
      by_bytes None is = tt
      by_bytes (Some bytes) is =
          let s = flush_session before new bytes (Ok calls.done) is w in
          (s.0, s.1, created_from k bytes failed (session_of new s.0) s.2)

  pub made_refused : (error : ErrorKind) → FlushStep before (Err error) new → IsCreateRefused k (told held failed) error
  made_refused error w = step_failed k w.earlier_len new.state error (bytes_told held) failed w.are_so_many w.step

-- a new database is sound
pub fresh_held : (k : Kept) → k ≡ databases.fresh → IsHeld k None true
fresh_held k is = record { current = tt; changed = λ _. ap (λ (k : Kept). is_sound k.database) is ∙ fresh_is_kept.sound }

-- the fields before the first write
pub made_from : (k : PackageType) (summary : Properties) (database : Kept) (bytes : List ℕ) → summary ≡ new_summary (title_of k) → database ≡ databases.fresh
    → state_of k summary (with_open None bytes database) false true true true ≡ unwritten k
made_from k summary database bytes summary_is database_is = λ i. state_of k (summary_is i) (with_open None bytes (database_is i)) false true true true

pub err_as : {A : Type 0} (r : Result A ErrorKind) (P : ErrorKind → Type 0) (kind : ErrorKind) → P kind → r ≡ Err kind → IfErr r P
err_as {A} r P kind p is = subst (λ (a : Result A ErrorKind). IfErr a P) (sym is) p
