-- What calls on a stream that a package lends are to the package.
use Rattle.std.proofs.Common.{◌≡◌, ℕ, ◌⊎◌, Option, Some, None, List, [], ◌∷◌, Result, Ok, Err, refl, sym, ap, subst, ◌∙◌, inl, inr}
use Rattle.std.specs.Prelude.{not}
use Rattle.std.specs.declared.cmp.Ordering.{Ordering}
use Rattle.std.specs.declared.cmp.Ordering.TheVariants.{Less, Equal, Greater}
use Rattle.std.specs.Ordering.{ordering_reverse}
use Rattle.std.specs.FinMap.Entries.{by_order}
use Rattle.msi.specs.Text.ErrorKind.{ErrorKind}
use Rattle.msi.specs.Text.ErrorKind.TheVariants.{InvalidInput, NotFound, OutOfMemory}
use Rattle.msi.specs.Query.Refusals.{AnswersWith, Refusals, first_refusal}
use Rattle.msi.specs.Container.Names.{name_cmp}
use Rattle.msi.proofs.NamesLemmas.{names_total}
use Rattle.msi.specs.Database.Keys.{is_stream_name, stream_key}
use Rattle.msi.specs.Database.Streams.{Streams, with_stream}
use Rattle.msi_streams.specs.Cursor as streams
use Rattle.msi.specs.State.{State, parts_of}
use Rattle.msi.specs.Calls.{Answer, StreamAnswer, ReaderCall, WriterCall}
use Rattle.msi.specs.Calls as calls
use Rattle.msi.specs.Lent.{RunsTo, reader_outcome, reader_wants_memory, writer_outcome, writer_wants_memory}
use Rattle.msi.specs.Steps.{LendsOrRefuses, Step, bytes_of_stream, has_stream, leaving_or, name_refusals, with_streams}
use Rattle.msi.specs.Whole.{Whole, with_state}
use Rattle.msi.proofs.calls_in_turn.CallLemmas.{step_unfed}
use Rattle.msi.proofs.writing.FlushStepLemmas.{answers_as}
use Rattle.msi_replay.specs.Sent.{lent_cursor}
use Rattle.msi_replay.specs.Taken.{Takes}
use Rattle.msi_replay.proofs.TakenLemmas.{lent_takes}

-- A STREAM PUT TWICE IS WHAT WAS PUT LAST

tie : (r : Ordering) → r ≡ ordering_reverse r → r ≡ Equal
tie Less e = absurd cc
tie Equal e = refl
tie Greater e = absurd cc

module _ (key v w : List ℕ) where
  same : name_cmp key key ≡ Equal
  same = tie (name_cmp key key) (names_total.antisymm key key)

  put_twice : (streams : Streams) → with_stream key w (with_stream key v streams) ≡ with_stream key w streams
  put_twice [] = ap (λ r. by_order r ((key, w) ∷ (key, v) ∷ []) ((key, w) ∷ []) ((key, v) ∷ (key, w) ∷ [])) same
  put_twice (s ∷ ss) =
      elim (name_cmp key s.0) as (λ r. name_cmp key s.0 ≡ r
      → with_stream key w (by_order r ((key, v) ∷ s ∷ ss) ((s.0, v) ∷ ss) (s ∷ with_stream key v ss))
      ≡ by_order r ((key, w) ∷ s ∷ ss) ((s.0, w) ∷ ss) (s ∷ with_stream key w ss)) [
        | Less ↦ λ is. ap (λ r. by_order r ((key, w) ∷ (key, v) ∷ s ∷ ss) ((key, w) ∷ s ∷ ss) ((key, v) ∷ with_stream key w (s ∷ ss))) same
        | Equal ↦ λ is. ap (λ r. by_order r ((key, w) ∷ (s.0, v) ∷ ss) ((s.0, w) ∷ ss) ((s.0, v) ∷ with_stream key w ss)) is
        | Greater ↦ λ is. ap (λ r. by_order r ((key, w) ∷ s ∷ with_stream key v ss) ((s.0, w) ∷ with_stream key v ss) (s ∷ with_stream key w (with_stream key v ss))) is
            ∙ ap (λ (xs : Streams). s ∷ xs) (put_twice ss)
      ] refl

rewritten : (key bytes : List ℕ) (s : State) → with_streams (with_stream key bytes) (with_streams (with_stream key []) s) ≡ with_streams (with_stream key bytes) s
rewritten key bytes s = ap (λ (xs : Streams). with_streams (λ _. xs) s) (put_twice key [] bytes s.kept.streams)

-- WRITING

module _ (old new : Whole) (name : List ℕ) (sent : List WriterCall) where
  pub write_takes : (start left : streams.Cursor) (answers : List (Result StreamAnswer ErrorKind))
      → first_refusal (name_refusals (parts_of old.state) name) ≡ None → start ≡ streams.at_start []
      → RunsTo writer_outcome writer_wants_memory (lent_cursor start) sent answers (lent_cursor left)
      → new ≡ with_state (with_streams (with_stream (stream_key name) left.bytes) old.state) old
      → Takes old (calls.write_stream name sent) (Ok (calls.stream_says answers)) new
  write_takes start left answers accepted is runs ends =
      lent_takes old new (calls.write_stream name sent) refl (name_refusals (parts_of old.state) name)
      (with_streams (with_stream (stream_key name) []) old.state) (λ n. refl) (calls.stream_says answers) accepted (
        lent_cursor left,
        subst (λ (c : streams.Cursor). RunsTo writer_outcome writer_wants_memory (lent_cursor c) sent answers (lent_cursor left)) is runs,
        ap (λ (w : Whole). w.state) ends ∙ sym (rewritten (stream_key name) left.bytes old.state),
      )
      (ap (λ (w : Whole). w.held) ends) (ap (λ (w : Whole). w.failed) ends)

  pub write_refused : (A : Type 0) (kind said : ErrorKind) → (kind ≡ OutOfMemory) ⊎ (first_refusal (name_refusals (parts_of old.state) name) ≡ Some kind)
      → AnswersWith {A = A} (first_refusal (name_refusals (parts_of old.state) name)) (Err kind) → said ≡ kind → new ≡ old
      → Takes old (calls.write_stream name sent) (Err said) new
  write_refused A kind said refused early is same = record {
    step = λ n. subst (λ (k : ErrorKind). Step n old.state (calls.write_stream name sent) (Err k) new.state) (sym is) (step_of n refused);
    held = ap (λ (w : Whole). w.held) same;
    failed = ap (λ (w : Whole). w.failed) same;
  }
    where
      unchanged : new.state ≡ old.state
      unchanged = ap (λ (w : Whole). w.state) same

      step_of : (n : ℕ) → (kind ≡ OutOfMemory) ⊎ (first_refusal (name_refusals (parts_of old.state) name) ≡ Some kind)
          → Step n old.state (calls.write_stream name sent) (Err kind) new.state
      step_of n (inl memory) = step_unfed n old.state (calls.write_stream name sent) refl new.state kind memory unchanged
          (answers_as A Answer (first_refusal (name_refusals (parts_of old.state) name)) kind early)
      step_of n (inr first) = inl (subst (λ (o : Option ErrorKind). LendsOrRefuses old.state (calls.write_stream name sent)
          (leaving_or o old.state (with_streams (with_stream (stream_key name) []) old.state)) (Err kind) new.state)
          (sym first) (refl, unchanged))

-- READING

abbrev read_refusals : State → List ℕ → Refusals
read_refusals s name = (not (is_stream_name name), InvalidInput) ∷ (not (has_stream (parts_of s) name), NotFound) ∷ []

module _ (w : Whole) (name : List ℕ) (sent : List ReaderCall) where
  pub read_takes : (start left : streams.Cursor) (answers : List (Result StreamAnswer ErrorKind))
      → first_refusal (read_refusals w.state name) ≡ None → start ≡ streams.at_start (bytes_of_stream (parts_of w.state) name)
      → RunsTo reader_outcome reader_wants_memory (lent_cursor start) sent answers (lent_cursor left)
      → Takes w (calls.read_stream name sent) (Ok (calls.stream_says answers)) w
  read_takes start left answers accepted is runs =
      lent_takes w w (calls.read_stream name sent) refl (read_refusals w.state name) w.state (λ n. refl) (calls.stream_says answers) accepted (
        lent_cursor left,
        subst (λ (c : streams.Cursor). RunsTo reader_outcome reader_wants_memory (lent_cursor c) sent answers (lent_cursor left)) is runs,
        refl,
      ) refl refl
