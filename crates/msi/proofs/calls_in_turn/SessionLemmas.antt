-- Sessions: what the device holds means the package, wherever nothing is unwritten.
use Rattle.std.proofs.Common.{◌≡◌, ℕ, Bool, true, false, List, [], ◌∷◌, length, Result, Ok, Err, refl, sym, ap, subst, ◌∙◌, inl, inr}
use Rattle.std.specs.Prelude.{MatchBool, if◌then◌else◌}
use Rattle.std.proofs.lemmas.Bool.{true≢false}
use Rattle.msi_base.specs.declared.errors.ErrorKind.{ErrorKind}
use Rattle.msi_base.specs.declared.errors.ErrorKind.TheVariants.{InvalidInput}
use Rattle.msi_base.specs.Refusals.{unless_refused, or_refused, ◌>>=◌}
use Rattle.msi_database.proofs.RefusedLemmas.{not_refused, first_fails}
use Rattle.msi_container_write.specs.Layout.{layout, refuses}
use Rattle.msi_database.proofs.ShownTablesLemmas.{ok_first}
use Rattle.msi_database_storage.specs.Streams.{Streams}
use Rattle.msi.specs.State.{State, parts_of}
use Rattle.msi.specs.Meaning.{IsPackage, Means, OpensTo}
use Rattle.msi.specs.Calls.{Call, Answer}
use Rattle.msi.specs.Calls as calls
use Rattle.msi.specs.Steps.{Step, flushed, written_for, streams_written, image_refusals, contents_of, as_written}
use Rattle.msi.specs.Runs.{Session, SessionStep, FlushLeaves, SameDevice, FitsCall, TextsAreWritable, HoldsPackage, IsSession}
use Rattle.msi.specs.Laws.{RunsKeepSessions, FlushedIsHeld, FlushHoldsImage, ImagesMean}
use Rattle.msi.proofs.writing.FlushLemmas.{flush_package, flush_parts}
use Rattle.msi.proofs.meaning.MeaningLemmas.{image_means, image_opens}
use Rattle.msi.proofs.calls_in_turn.StepLemmas.{written_is}
use Rattle.msi.proofs.calls_in_turn.RunLemmas.{session_keeps}
use Rattle.msi.proofs.packages.LeavingLemmas.{Leaves, is_flush, step_leaves}

-- what is held where nothing is unwritten
abbrev pub HeldClean : Session → Type 0
HeldClean x = x.state.is_unwritten ≡ false → TextsAreWritable x.state → HoldsPackage x

-- A FLUSH THAT IS DONE

-- the streams that are written can be laid out
pub accepted_is : (s : State) (n : ℕ) (streams : Streams) → written_for s n ≡ Ok streams → refuses (contents_of s streams) n ≡ false
accepted_is s n streams e =
    let first = ok_first (or_refused InvalidInput (streams_written s)) (λ streams. unless_refused (image_refusals s n streams) streams) streams e in
    let passed = not_refused (image_refusals s n first.0) first.0 streams first.2 in
    subst (λ (x : Streams). refuses (contents_of s x) n ≡ false) passed.1 (first_fails (refuses (contents_of s first.0) n) InvalidInput [] passed.0).0

abbrev pub laid_out : State → Streams → ℕ → Session
laid_out s streams n = record { state = as_written s streams; held = layout (contents_of s streams) n; failed = false }

pub left_by : (s : State) (streams : Streams) (n : ℕ) → IsPackage s → written_for s n ≡ Ok streams → HeldClean (laid_out s streams n)
left_by s streams n h e clean writable =
    let left : IsPackage (as_written s streams) = flush_package s streams h (written_is s n streams e) in
    let accepted = accepted_is s n streams e in record {
      means = image_means (as_written s streams) left refl refl n accepted writable;
      opens = image_opens (as_written s streams) left refl refl n accepted refl writable;
    }

-- WHAT IS HELD

-- the same state over the same bytes
same_held : (x y : Session) → y.state ≡ x.state → SameDevice x y → HeldClean x → HeldClean y
same_held x y s d h = subst HeldClean (λ i. record { state = sym s i; held = sym d.0 i; failed = sym d.1 i }) h

leaves_held : (x y : Session) → Leaves x.state y.state → SameDevice x y → HeldClean x → HeldClean y
leaves_held x y (inl same) d h e = same_held x y same d h e
leaves_held x y (inr unwritten) d h e = absurd (true≢false (sym unwritten ∙ e))

-- a flush that leaves the state: it wrote nothing that counts, or the package is still unwritten, whatever bytes are held
flush_stays : (x y : Session) (unwritten : Bool) (answer : Result Answer ErrorKind) → x.state.is_unwritten ≡ unwritten → y.state ≡ x.state → MatchBool unwritten (FlushLeaves x answer y) (SameDevice x y)
    → HeldClean x → HeldClean y
flush_stays x y true answer e same d h clean = absurd (true≢false (sym (ap (λ (s : State). s.is_unwritten) same ∙ e) ∙ clean))
flush_stays x y false answer e same d h clean = same_held x y same d h clean

-- what a flush that is done leaves
flush_done : (x y : Session) (streams : Streams) → y.state ≡ as_written x.state streams → FlushLeaves x (Ok calls.done) y → laid_out x.state streams (length x.held) ≡ y
flush_done x y streams state device =
    let held : y.held ≡ layout (contents_of x.state streams) (length x.held) = device.0 ∙ ap (λ (t : State). layout (contents_of t t.kept.streams) (length x.held)) state in
    λ i. record { state = sym state i; held = sym held i; failed = sym device.1 i }

flush_by : (x y : Session) (unwritten : Bool) (r : Result Streams ErrorKind) (answer : Result Answer ErrorKind) → x.state.is_unwritten ≡ unwritten
    → ((streams : Streams) → r ≡ Ok streams → HeldClean (laid_out x.state streams (length x.held)))
    → (if unwritten then flushed x.state r else (Ok calls.done, x.state)) ≡ (answer, y.state)
    → MatchBool unwritten (FlushLeaves x answer y) (SameDevice x y) → HeldClean x → HeldClean y
flush_by x y false r answer e done is d h = flush_stays x y false answer e (sym (ap (λ p. p.1) is)) d h
flush_by x y true (Err kind) answer e done is d h = flush_stays x y true answer e (sym (ap (λ p. p.1) is)) d h
flush_by x y true (Ok streams) answer e done is d h =
    let device : FlushLeaves x (Ok calls.done) y = subst (λ (a : Result Answer ErrorKind). FlushLeaves x a y) (sym (ap (λ p. p.0) is)) d in
    subst HeldClean (flush_done x y streams (sym (ap (λ p. p.1) is)) device) (done streams refl)

flush_step : (x y : Session) (answer : Result Answer ErrorKind) → IsPackage x.state → SessionStep x calls.flush answer y → HeldClean x → HeldClean y
flush_step x y answer is (inl step, d) h =
    flush_by x y x.state.is_unwritten (written_for x.state (length x.held)) answer refl (λ streams e. left_by x.state streams (length x.held) is e) step.0 d h
flush_step x y answer is (inr (inl memory), d) h = flush_stays x y x.state.is_unwritten answer refl memory.2 d h
flush_step x y answer is (inr (inr fault), d) h = flush_stays x y x.state.is_unwritten answer refl fault.2 d h

other_step : (x y : Session) (call : Call) (answer : Result Answer ErrorKind) → is_flush call ≡ false → Step (length x.held) x.state call answer y.state × SameDevice x y → HeldClean x → HeldClean y
other_step x y call answer f (step, d) h = leaves_held x y (step_leaves (length x.held) x.state call answer y.state f step) d h

any_step : (x y : Session) (call : Call) (answer : Result Answer ErrorKind) → IsPackage x.state → SessionStep x call answer y → HeldClean x → HeldClean y
any_step x y calls.device_failed answer is step h = subst HeldClean (sym step.1) h
any_step x y calls.flush answer is step h = flush_step x y answer is step h
any_step x y call answer is step h = other_step x y call answer refl step h

-- SESSIONS

pub session_step : (x y : Session) (call : Call) (answer : Result Answer ErrorKind) → FitsCall call → SessionStep x call answer y → IsSession x → IsSession y
session_step x y call answer fits step h = record {
  is_package = (session_keeps x y call answer h.is_package fits step).is_package;
  held = any_step x y call answer h.is_package step h.held;
}

pub runs_keep_sessions : RunsKeepSessions
runs_keep_sessions old new [] [] h fits run = subst IsSession (sym run) h
runs_keep_sessions old new [] (a ∷ others) h fits run = absurd run
runs_keep_sessions old new (c ∷ cs) [] h fits run = absurd run
runs_keep_sessions old new (c ∷ cs) (a ∷ others) h fits run = runs_keep_sessions run.0 new cs others (session_step old run.0 c a fits.0 run.1 h) fits.1 run.2

-- a flush that is done leaves nothing unwritten
pub no_answer : {P : Type 0} (kind : ErrorKind) {a : Answer} → ◌≡◌ {A = Result Answer ErrorKind} (Err kind) (Ok a) → P
no_answer kind e = absurd cc

clean_by : (s y : State) (answer : Answer) (unwritten : Bool) (r : Result Streams ErrorKind) → s.is_unwritten ≡ unwritten → (if unwritten then flushed s r else (Ok calls.done, s)) ≡ (Ok answer, y) → y.is_unwritten ≡ false
clean_by s y answer false r e is = ap (λ (t : State). t.is_unwritten) (sym (ap (λ p. p.1) is)) ∙ e
clean_by s y answer true (Ok streams) e is = ap (λ (t : State). t.is_unwritten) (sym (ap (λ p. p.1) is))
clean_by s y answer true (Err kind) e is = no_answer kind (ap (λ p. p.0) is)

pub flushed_clean : (x y : Session) (answer : Answer) → SessionStep x calls.flush (Ok answer) y → y.state.is_unwritten ≡ false
flushed_clean x y answer (inl is, b) = clean_by x.state y.state answer x.state.is_unwritten (written_for x.state (length x.held)) refl is.0
flushed_clean x y answer (inr (inl memory), b) = no_answer _ (sym memory.1)
flushed_clean x y answer (inr (inr fault), b) = no_answer _ (sym fault.1)

pub flushed_is_held : FlushedIsHeld
flushed_is_held x y h step =
    let clean = flushed_clean x y calls.done step in
    (clean, λ writable. (session_step x y calls.flush (Ok calls.done) tt step h).held clean writable)

-- THE IMAGE

abbrev held_answer : Session → Result (List ℕ) ErrorKind
held_answer z = Ok z.held

image_by : (x y : Session) (answer : Answer) (unwritten : Bool) (r : Result Streams ErrorKind) → unwritten ≡ true
    → (if unwritten then flushed x.state r else (Ok calls.done, x.state)) ≡ (Ok answer, y.state)
    → MatchBool unwritten (FlushLeaves x (Ok answer) y) (SameDevice x y)
    → (r >>= λ streams. Ok (layout (contents_of x.state streams) (length x.held))) ≡ Ok y.held
image_by x y answer false r e is d = absurd (true≢false (sym e))
image_by x y answer true (Err kind) e is d = no_answer kind (ap (λ p. p.0) is)
image_by x y answer true (Ok streams) e is d =
    ap held_answer (flush_done x y streams (sym (ap (λ p. p.1) is)) d)

pub flush_holds_image : FlushHoldsImage
flush_holds_image x y answer unwritten (inl is, d) = image_by x y answer x.state.is_unwritten (written_for x.state (length x.held)) unwritten is.0 d
flush_holds_image x y answer unwritten (inr (inl memory), d) = no_answer _ (sym memory.1)
flush_holds_image x y answer unwritten (inr (inr fault), d) = no_answer _ (sym fault.1)

-- what a state is laid out as
abbrev laid_bytes : State → ℕ → Streams → Result (List ℕ) ErrorKind
laid_bytes s n streams = Ok (layout (contents_of s streams) n)

abbrev bytes_in : List ℕ → Result (List ℕ) ErrorKind → List ℕ
bytes_in other (Ok bytes) = bytes
bytes_in other (Err kind) = other

pub images_mean : ImagesMean
images_mean s n bytes h writable e =
    let first = ok_first (written_for s n) (laid_bytes s n) bytes e in
    let holds = left_by s first.0 n h first.1 refl writable in
    let are : layout (contents_of s first.0) n ≡ bytes = ap (bytes_in []) first.2 in
    let parts : parts_of (as_written s first.0) ≡ parts_of s = flush_parts s first.0 h (written_is s n first.0 first.1) in
    record {
      means = subst (λ (b : List ℕ). Means b (parts_of s)) are (subst (Means (layout (contents_of s first.0) n)) parts holds.means);
      opens = (as_written s first.0, parts, subst (λ (b : List ℕ). OpensTo b (Ok (as_written s first.0))) are holds.opens);
    }
