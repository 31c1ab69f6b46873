-- A flush is a step of its package, and of a session whose device tells its bytes.
use Rattle.std.proofs.Common.{◌≡◌, ℕ, Bool, true, false, List, [], ◌∷◌, length, Option, Some, None, Result, Ok, Err, refl, sym, ap, subst, ◌∙◌, inl, inr}
use Rattle.std.specs.Prelude.{◌&&◌, IfSome, MatchBool, OnOk, if◌then◌else◌, not, option_map}
use Rattle.std.proofs.lemmas.Bool.{true≢false}
use Rattle.msi_base.specs.declared.errors.ErrorKind.{ErrorKind}
use Rattle.msi_base.specs.declared.errors.ErrorKind.TheVariants.{AlreadyExists, InvalidData, InvalidInput, Io, NotFound, OutOfMemory}
use Rattle.msi_base.specs.Refusals.{AnswersFirst, AnswersWith, IsRefusal, first_refusal, or_refused, unless_refused, ◌>>=◌}
use Rattle.msi_container_device.specs.Held.{Held, bytes_told}
use Rattle.msi_container_format.specs.declared.contents.Contents.{Contents}
use Rattle.msi_container_write.specs.Layout.{layout, refuses}
use Rattle.msi_database_storage.specs.Kept.{Kept}
use Rattle.msi_database_storage.specs.Streams.{Streams}
use Rattle.msi_database.specs.Others.{with_streams}
use Rattle.msi.specs.State.{State}
use Rattle.msi.specs.Calls.{Answer}
use Rattle.msi.specs.Calls as calls
use Rattle.msi.specs.Steps.{Step, as_written, contents_of, flush_outcome, flushed, image_of, image_refusals, streams_written, text_refusals, written_for}
use Rattle.msi.specs.Runs.{FlushLeaves, SessionStep, SameDevice, result_or}
use Rattle.msi.specs.Whole.{Whole}
use Rattle.msi.specs.Renewing.{with_renewed}
use Rattle.msi.specs.Flushing.{FlushStep, FlushTells, LeavesBytes, LeavesCleared, Overwrites, Told, Writes, begun_over, flush_answer, left_by, over_device, session_of, told, told_by}
use Rattle.msi.proofs.writing.OverwritingLemmas.{told_len, told_len_is}
use Rattle.msi.proofs.writing.TextRefusalLemmas.{texts_of_flush, written_first}

-- WHAT IS WRITTEN

-- where the flag is cleared first, it is still clear where nothing was written
cleared_of : (old new : Told) → old.failed ≡ false → LeavesBytes old new → LeavesCleared old new
cleared_of old new clear (same, inl none) = (same, none)
cleared_of old new clear (same, inr kept) = (same, kept ∙ clear)

pub over_cleared : (c : Contents) (held cleared : Option Held) (flag : Bool) (r : Result (Unit {0}) ErrorKind) (new : Told) → cleared ≡ held → flag ≡ false
    → Overwrites c (told cleared flag) r new → Overwrites c (told held false) r new
over_cleared c held cleared flag r new same clear w =
    subst (λ (b : Bool). Overwrites c (told held b) r new) clear (subst (λ (h : Option Held). Overwrites c (told h flag) r new) same w)

module _ (s : State) (streams : Streams) (n : ℕ) (written : streams_written s ≡ Some streams) where
  abbrev refused : Bool
  refused = refuses (contents_of s streams) n

  pub written_is : written_for s n ≡ (if refused then Err InvalidInput else Ok streams)
  written_is =
      ap (λ (o : Option Streams). or_refused InvalidInput o >>= λ all. unless_refused (image_refusals s n all) all) written ∙ by_refusal refused
    where
      by_refusal : (b : Bool) → ◌≡◌ {A = Result Streams ErrorKind} (unless_refused ((b, InvalidInput) ∷ []) streams) (if b then Err InvalidInput else Ok streams)
      by_refusal true = refl
      by_refusal false = refl

  image_is : (bytes : List ℕ) → result_or bytes (image_of s n) ≡ (if refused then bytes else layout (contents_of s streams) n)
  image_is bytes =
      ap (λ (r : Result Streams ErrorKind). result_or bytes (r >>= λ all. Ok (layout (contents_of s all) n))) written_is ∙ by_refusal refused
    where
      by_refusal : (b : Bool) → result_or bytes ((if b then Err InvalidInput else Ok streams) >>= λ all. Ok (layout (contents_of s all) n)) ≡ (if b then bytes else layout (contents_of s streams) n)
      by_refusal true = refl
      by_refusal false = refl

  -- of a package that is unwritten
  module _ (unwritten : s.is_unwritten ≡ true) where
    outcome_is : (b : Bool) → refused ≡ b → flush_outcome s n ≡ flushed s (if b then Err InvalidInput else Ok streams)
    outcome_is b is =
        ap (λ u. if u then flushed s (written_for s n) else (Ok calls.done, s)) unwritten
        ∙ ap (flushed s) (written_is ∙ ap (λ r. if r then Err InvalidInput else Ok streams) is)

    step_is : (old new : Option Held) (before after : Bool) (r : Result (Unit {0}) ErrorKind) (k : Kept) → (r ≡ Ok tt → k.streams ≡ streams)
        → Writes (contents_of s streams) n (told old before) r (told new after) → Step n s calls.flush (flush_answer r) (left_by r s k)
    step_is old new before after (Ok done) k is w =
        inl (outcome_is false w.0 ∙ ap (λ (all : Streams). (Ok calls.done, as_written s all)) (sym (is refl)), tt)
    step_is old new before after (Err InvalidInput) k is w = inl (outcome_is true w.0, tt)
    step_is old new before after (Err OutOfMemory) k is w = inr (inl (unwritten, refl, refl, written_first s streams (Err OutOfMemory) written))
    step_is old new before after (Err Io) k is w = inr (inr (unwritten, refl, refl, written_first s streams (Err Io) written))
    step_is old new before after (Err AlreadyExists) k is w = absurd w
    step_is old new before after (Err InvalidData) k is w = absurd w
    step_is old new before after (Err NotFound) k is w = absurd w

    tells : (old new : Option Held) (before after pending last : Bool) (r : Result (Unit {0}) ErrorKind) (k : Kept) → (r ≡ Ok tt → k.streams ≡ streams)
        → Writes (contents_of s streams) n (told old false) r (told new after)
        → FlushTells n (over_device s old before pending) (flush_answer r) (over_device (left_by r s k) new after last)
    tells old new before after pending last (Ok done) k is w =
        (w.1 ∙ ap (λ (all : Streams). option_map (λ _. layout (contents_of s all) n) (bytes_told old)) (sym (is refl)), w.2)
    tells old new before after pending last (Err InvalidInput) k is w = cleared_of (told old false) (told new after) refl w.1
    tells old new before after pending last (Err OutOfMemory) k is w = cleared_of (told old false) (told new after) refl w
    tells old new before after pending last (Err Io) k is w =
        (w.0, w.1 ∙ same (bytes_told old), w.2)
      where
        same : (o : Option (List ℕ)) → option_map (λ bytes. begun_over w.0 (if refused then bytes else layout (contents_of s streams) n) bytes) o
            ≡ option_map (λ bytes. begun_over w.0 (result_or bytes (image_of s n)) bytes) o
        same None = refl
        same (Some bytes) = ap (λ image. Some (begun_over w.0 image bytes)) (sym (image_is bytes))
    tells old new before after pending last (Err AlreadyExists) k is w = absurd w
    tells old new before after pending last (Err InvalidData) k is w = absurd w
    tells old new before after pending last (Err NotFound) k is w = absurd w

pub when_true : (b : Bool) (P Q : Type 0) → b ≡ true → P → MatchBool b P Q
when_true true P Q is p = p
when_true false P Q is p = absurd (true≢false (sym is))

-- A FLUSH

pub flush_written : (s : State) (streams : Streams) (k : Kept) (old new : Option Held) (before after pending last : Bool) (r : Result (Unit {0}) ErrorKind)
    → s.is_unwritten ≡ true → streams_written s ≡ Some streams → (r ≡ Ok tt → k.streams ≡ streams)
    → Overwrites (contents_of s streams) (told old false) r (told new after)
    → FlushStep (over_device s old before pending) (flush_answer r) (over_device (left_by r s k) new after last)
flush_written s streams k old new before after pending last r unwritten written is w = record {
  earlier_len = w.earlier_len;
  are_so_many = w.are_so_many;
  step = step_is s streams w.earlier_len written unwritten old new false after r k is w.writes;
  device = when_true s.is_unwritten _ _ unwritten (tells s streams w.earlier_len written unwritten old new before after pending last r k is w.writes);
}

-- what a refusal answers, whatever else the call may return
pub answers_as : (A B : Type 0) (o : Option ErrorKind) (kind : ErrorKind) → AnswersWith {A = A} o (Err kind) → AnswersWith {A = B} o (Err kind)
answers_as A B None kind early = tt
answers_as A B (Some first) kind early = let e : kind ≡ first = cc early in ap Err e

-- one that is refused before it calls the device
pub written_refused : (s : State) (n : ℕ) (kind : ErrorKind) → or_refused InvalidInput (streams_written s) ≡ Err kind → written_for s n ≡ Err kind
written_refused s n kind e = ap (λ (r : Result Streams ErrorKind). r >>= λ all. unless_refused (image_refusals s n all) all) e

pub only_input : (o : Option Streams) (kind : ErrorKind) → or_refused InvalidInput o ≡ Err kind → kind ≡ InvalidInput
only_input None kind e = cc
only_input (Some x) kind e = absurd cc

refused_tells : (n : ℕ) (old new : Whole) (kind : ErrorKind) → LeavesCleared (told_by old) (told_by new) → IsRefusal (or_refused InvalidInput (streams_written old.state)) kind
    → FlushTells n old (Err kind) new
refused_tells n old new kind left (inl memory) = subst (λ k. FlushTells n old (Err k) new) (sym memory) left
refused_tells n old new kind left (inr e) = subst (λ k. FlushTells n old (Err k) new) (sym (only_input (streams_written old.state) kind e)) left

refused_step : (n : ℕ) (s : State) (kind : ErrorKind) → s.is_unwritten ≡ true → IsRefusal (or_refused InvalidInput (streams_written s)) kind
    → AnswersFirst {A = Answer} (text_refusals s) (Err kind) → Step n s calls.flush (Err kind) s
refused_step n s kind unwritten (inl memory) early = inr (inl (unwritten, ap Err memory, refl, texts_of_flush s (Err kind) early))
refused_step n s kind unwritten (inr e) early =
    inl (ap (λ u. if u then flushed s (written_for s n) else (Ok calls.done, s)) unwritten ∙ ap (flushed s) (written_refused s n kind e), tt)

flush_refused : (old new : Whole) (kind : ErrorKind) → old.state.is_unwritten ≡ true → new.state ≡ old.state → LeavesCleared (told_by old) (told_by new)
    → IsRefusal (or_refused InvalidInput (streams_written old.state)) kind → AnswersFirst {A = Answer} (text_refusals old.state) (Err kind) → FlushStep old (Err kind) new
flush_refused old new kind unwritten same left refusal early =
    let n : ℕ = told_len (bytes_told old.held) in record {
      earlier_len = n;
      are_so_many = told_len_is (told_by old);
      step = subst (λ (t : State). Step n old.state calls.flush (Err kind) t) (sym same) (refused_step n old.state kind unwritten refusal early);
      device = when_true old.state.is_unwritten _ _ unwritten (refused_tells n old new kind left refusal);
    }

pub flush_refused_as : (s : State) (held left : Option Held) (failed after pending last : Bool) (k : Kept) (r : Result (Unit {0}) ErrorKind) (kind : ErrorKind) → r ≡ Err kind
    → s.is_unwritten ≡ true → left ≡ held → after ≡ false → IsRefusal (or_refused InvalidInput (streams_written s)) kind
    → AnswersFirst (text_refusals s) r
    → FlushStep (over_device s held failed pending) (flush_answer r) (over_device (left_by r s k) left after last)
flush_refused_as s held left failed after pending last k r kind is unwritten same cleared refusal early =
    subst (λ (a : Result (Unit {0}) ErrorKind). FlushStep (over_device s held failed pending) (flush_answer a) (over_device (left_by a s k) left after last)) (sym is)
    (flush_refused (over_device s held failed pending) (over_device s left after last) kind unwritten refl (ap bytes_told same, cleared) refusal
    (answers_as (Unit {0}) Answer (first_refusal (text_refusals s)) kind (subst (λ (a : Result (Unit {0}) ErrorKind). AnswersFirst (text_refusals s) a) is early)))

-- the streams that are left where a flush is done
pub left_streams : (r : Result (Unit {0}) ErrorKind) (new old : Kept) (items renewed : Streams) → OnOk r (new ≡ with_streams (with_renewed items) old) → items ≡ renewed
    → r ≡ Ok tt → new.streams ≡ with_renewed renewed old.streams
left_streams (Ok done) new old items renewed is same e = ap (λ (k : Kept). k.streams) is ∙ ap (λ rs. with_renewed rs old.streams) same
left_streams (Err kind) new old items renewed is same e = absurd cc

-- with nothing unwritten
pub when_false : (b : Bool) (P Q : Type 0) → b ≡ false → Q → MatchBool b P Q
when_false true P Q is q = absurd (true≢false is)
when_false false P Q is q = q

pub flush_nothing : (w : Whole) → w.state.is_unwritten ≡ false → FlushStep w (Ok calls.done) w
flush_nothing w clean = record {
  earlier_len = told_len (bytes_told w.held);
  are_so_many = told_len_is (told_by w);
  step = inl (ap (λ u. if u then flushed w.state (written_for w.state (told_len (bytes_told w.held))) else (Ok calls.done, w.state)) clean, tt);
  device = when_false w.state.is_unwritten _ _ clean (refl, refl);
}

-- What is pending after an accepted flush: what was before, if nothing was unwritten, and else nothing
pub pending_nothing : (w : Whole) → w.state.is_unwritten ≡ false → w.pending ≡ (not w.state.is_unwritten && w.pending)
pending_nothing w clean = ap (λ (b : Bool). not b && w.pending) (sym clean)

pub pending_written : (w : Whole) (pending : Bool) → w.state.is_unwritten ≡ true → pending ≡ false → pending ≡ (not w.state.is_unwritten && w.pending)
pending_written w pending unwritten none = none ∙ ap (λ (b : Bool). not b && w.pending) (sym unwritten)

-- A SESSION

abbrev TellsSession : Whole → List ℕ → Result Answer ErrorKind → Whole → Type 0
TellsSession old held answer new = (left : List ℕ) × (bytes_told new.held ≡ Some left) × FlushLeaves (session_of old held) answer (session_of new left)

tells_session : (old new : Whole) (held : List ℕ) (n : ℕ) (answer : Result Answer ErrorKind) → bytes_told old.held ≡ Some held → n ≡ length held → FlushTells n old answer new → TellsSession old held answer new
tells_session old new held n (Ok answer) is many w =
    (layout (contents_of new.state new.state.kept.streams) n, w.0 ∙ ap (option_map (λ _. layout (contents_of new.state new.state.kept.streams) n)) is, (ap (layout (contents_of new.state new.state.kept.streams)) many, w.1))
tells_session old new held n (Err Io) is many w =
    let image : ℕ → List ℕ = λ m. begun_over w.0 (result_or held (image_of old.state m)) held in
    (image n, w.1 ∙ ap (option_map (λ bytes. begun_over w.0 (result_or bytes (image_of old.state n)) bytes)) is, (w.0, ap image many, w.2))
tells_session old new held n (Err InvalidInput) is many w = (held, w.0 ∙ is, (refl, w.1))
tells_session old new held n (Err OutOfMemory) is many w = (held, w.0 ∙ is, (refl, w.1))
tells_session old new held n (Err AlreadyExists) is many w = (held, w.0 ∙ is, (refl, w.1))
tells_session old new held n (Err InvalidData) is many w = (held, w.0 ∙ is, (refl, w.1))
tells_session old new held n (Err NotFound) is many w = (held, w.0 ∙ is, (refl, w.1))

session_by : (old new : Whole) (held : List ℕ) (n : ℕ) (answer : Result Answer ErrorKind) (unwritten : Bool) → bytes_told old.held ≡ Some held → n ≡ length held
    → MatchBool unwritten (FlushTells n old answer new) ((new.held ≡ old.held) × (new.failed ≡ old.failed))
    → (left : List ℕ) × (bytes_told new.held ≡ Some left) × MatchBool unwritten (FlushLeaves (session_of old held) answer (session_of new left)) (SameDevice (session_of old held) (session_of new left))
session_by old new held n answer true is many w = tells_session old new held n answer is many w
session_by old new held n answer false is many w = (held, ap bytes_told w.0 ∙ is, (refl, w.1))

-- a flush over a device that tells its bytes is a step of its session
pub flush_session : (old new : Whole) (held : List ℕ) (answer : Result Answer ErrorKind) → bytes_told old.held ≡ Some held → FlushStep old answer new
    → (left : List ℕ) × (bytes_told new.held ≡ Some left) × SessionStep (session_of old held) calls.flush answer (session_of new left)
flush_session old new held answer is w =
    let many : w.earlier_len ≡ length held = subst (λ (o : Option (List ℕ)). IfSome o (λ bytes. w.earlier_len ≡ length bytes)) is w.are_so_many in
    let device = session_by old new held w.earlier_len answer old.state.is_unwritten is many w.device in
    (device.0, device.1, (subst (λ m. Step m old.state calls.flush answer new.state) many w.step, device.2))
