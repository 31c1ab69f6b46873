-- What holds of every step, of runs, and of what bytes mean: statements that public contracts name.
use Rattle.std.specs.Prelude.{◌≡◌, ℕ, ◌<◌, ◌^◌, ◌⊎◌, true, false, List, [], ◌∷◌, ◌++◌, length, Some, Result, Ok, Err}
use Rattle.std.specs.List.{AllByRecursion}
use Rattle.msi_base.specs.declared.errors.ErrorKind.{ErrorKind}
use Rattle.msi_base.specs.declared.errors.ErrorKind.TheVariants.{Io, OutOfMemory}
use Rattle.msi_base.specs.Refusals.{AnswersWith}
use Rattle.msi_container_format.specs.declared.contents.Contents.{Contents}
use Rattle.msi_database_schema.specs.Keys.{is_stream_name, stream_key}
use Rattle.msi_database.specs.Database.{Database, CountsAreExact, is_sound}
use Rattle.msi_database.specs.Laws.{KeysAreDistinct}
use Rattle.msi_database_storage.specs.Streams.{Streams, with_stream, without_stream}
use Rattle.msi.specs.declared.kinds.PackageType.{PackageType}
use Rattle.msi.specs.State.{Parts, State, parts_of}
use Rattle.msi.specs.Meaning.{ContentsMean, IsPackage, Means, OpenStep, OpensTo, Passes}
use Rattle.msi.specs.Calls.{Call, Answer}
use Rattle.msi.specs.Calls as calls
use Rattle.msi.specs.Steps.{Step, outcome, is_lending, image_of, refused_early, streams_written, as_written}
use Rattle.msi.specs.Steps.{with_streams, without_signature}
use Rattle.msi.specs.Runs.{Session, SessionStep, Run, FitsCall, TextsAreWritable, HoldsPackage, IsSession, IsReplay}
use Rattle.msi.specs.Runs.{ApplyNoTransform, HasExactCounts, IsReplayOver, created, created_over, opened}

-- each of them is a byte
abbrev pub AreBytes : List ℕ → Type 0
AreBytes bytes = AllByRecursion (λ b. b < 2 ^ 8) bytes

-- BYTES

-- bytes mean one package at most, and opening them gives one answer
abbrev pub BytesMeanOne : Type 0
BytesMeanOne = (bytes : List ℕ) (p q : Parts) → AreBytes bytes → Means bytes p → Means bytes q → p ≡ q

abbrev pub BytesOpenToOne : Type 0
BytesOpenToOne = (bytes : List ℕ) (a b : Result State ErrorKind) → AreBytes bytes
    → OpensTo bytes a → OpensTo bytes b → a ≡ b

-- bytes that aren't opened mean no package, and contents that pass each step of opening mean one
abbrev pub RefusedMeanNothing : Type 0
RefusedMeanNothing = (bytes : List ℕ) (kind : ErrorKind) (p : Parts) → OpensTo bytes (Err kind) → Means bytes p → ⊥

abbrev pub PassingMeans : Type 0
PassingMeans = (c : Contents) → ((s : OpenStep) → Passes c s) → (p : Parts) × ContentsMean c p

-- what is opened is a package of the parts that the bytes mean, with nothing unwritten
pub record IsOpened (bytes : List ℕ) (s : State) : Type 0 where
  pub is_package : IsPackage s
  pub means : Means bytes (parts_of s)
  pub unwritten : s.is_unwritten ≡ false
  pub lent : s.is_summary_lent ≡ false
  pub changed : s.is_pool_changed ≡ false

abbrev pub OpenedArePackages : Type 0
OpenedArePackages = (bytes : List ℕ) (s : State) → AreBytes bytes → OpensTo bytes (Ok s) → IsOpened bytes s

-- STEPS

-- what these calls keep: a package stays one; a sound one stays sound, and exact counts exact, and distinct keys
-- distinct where none of them applies a transform
pub record KeepsPackage (sent : List Call) (old new : State) : Type 0 where
  pub is_package : IsPackage new
  pub sound : is_sound old.kept.database ≡ true → is_sound new.kept.database ≡ true
  pub counts : is_sound old.kept.database ≡ true → CountsAreExact old.kept.database → CountsAreExact new.kept.database
  pub keys : ApplyNoTransform sent → is_sound old.kept.database ≡ true
      → KeysAreDistinct old.kept.database → KeysAreDistinct new.kept.database

-- an accepted recount leaves a sound database, and each count is the number of its cells
abbrev pub RecountsMakeExact : Type 0
RecountsMakeExact = (earlier_len : ℕ) (old new : State) (answer : Answer)
    → IsPackage old → Step earlier_len old calls.recount (Ok answer) new → HasExactCounts new.kept.database

abbrev pub StepsKeepPackages : Type 0
StepsKeepPackages = (earlier_len : ℕ) (old new : State) (call : Call) (answer : Result Answer ErrorKind)
    → IsPackage old → FitsCall call → Step earlier_len old call answer new → KeepsPackage (call ∷ []) old new

-- answer and state are fixed by the state and the call, want of memory and faults of the device apart, and these don't
-- come in place of an early refusal
abbrev pub StepsAreFixed : Type 0
StepsAreFixed = (earlier_len : ℕ) (old : State) (call : Call) → is_lending call ≡ false
    → (answer : Result Answer ErrorKind) (new : State) → Step earlier_len old call answer new
    → (outcome earlier_len old call ≡ (answer, new))
    ⊎ ((answer ≡ Err OutOfMemory) ⊎ (answer ≡ Err Io)) × (new ≡ old) × AnswersWith (refused_early old call) answer

-- the parts when the root's other streams become these
abbrev pub with_others : Streams → Parts → Parts
with_others streams p = record p { streams = streams }

-- a call on a stream changes its stream alone, and a flush nothing that the bytes mean
abbrev pub WritesItsStream : Type 0
WritesItsStream = (s : State) (name bytes : List ℕ) → IsPackage s → is_stream_name name ≡ true
    → parts_of (with_streams (with_stream (stream_key name) bytes) s)
    ≡ with_others (with_stream (stream_key name) bytes (parts_of s).streams) (parts_of s)

abbrev pub RemovesItsStream : Type 0
RemovesItsStream = (s : State) (name : List ℕ)
    → parts_of (with_streams (without_stream (stream_key name)) s)
    ≡ with_others (without_stream (stream_key name) (parts_of s).streams) (parts_of s)

abbrev pub RemovesSignature : Type 0
RemovesSignature = (s : State) → parts_of (with_streams without_signature s)
    ≡ with_others (without_signature (parts_of s).streams) (parts_of s)

abbrev pub FlushKeepsParts : Type 0
FlushKeepsParts = (s : State) (streams : Streams) → IsPackage s → streams_written s ≡ Some streams
    → parts_of (as_written s streams) ≡ parts_of s

-- RUNS

-- a sound database, with exact counts and distinct keys
pub record IsExact (d : Database) : Type 0 where
  pub sound : is_sound d ≡ true
  pub counts : CountsAreExact d
  pub keys : KeysAreDistinct d

-- calls one after another keep what each of them keeps
abbrev pub RunsKeepPackages : Type 0
RunsKeepPackages = (old new : Session) (sent : List Call) (answers : List (Result Answer ErrorKind))
    → IsPackage old.state → AllByRecursion FitsCall sent → Run old sent answers new
    → KeepsPackage sent old.state new.state

-- so do sessions: what is held after a flush that is done means the package that is left, and opens to it
abbrev pub RunsKeepSessions : Type 0
RunsKeepSessions = (old new : Session) (sent : List Call) (answers : List (Result Answer ErrorKind))
    → IsSession old → AllByRecursion FitsCall sent → Run old sent answers new → IsSession new

abbrev pub FlushedIsHeld : Type 0
FlushedIsHeld = (old new : Session) → IsSession old → SessionStep old calls.flush (Ok calls.done) new
    → (new.state.is_unwritten ≡ false) × (TextsAreWritable new.state → HoldsPackage new)

-- What a flush leaves: one that is done nothing unwritten, no part changed, and a device that holds the package where
-- its texts can be written; one that is refused the package as it was
pub record IsFlushed (old new : Session) : Type 0 where
  pub written : new.state.is_unwritten ≡ false
  pub parts : parts_of new.state ≡ parts_of old.state
  pub holds : TextsAreWritable new.state → HoldsPackage new

abbrev pub FlushEnds : Session → Result Answer ErrorKind → Session → Type 0
FlushEnds old (Ok answer) new = IsFlushed old new
FlushEnds old (Err kind) new = new.state ≡ old.state

-- A flush between calls of a run: the calls before it lead to the session that it finds, and those after it go on from
-- the session that it leaves
pub record FlushAmong (old : Session) (earlier later : List Call) (answers : List (Result Answer ErrorKind))
    (new : Session) : Type 0 where
  pub found : Session
  pub left : Session
  pub first : List (Result Answer ErrorKind)
  pub answer : Result Answer ErrorKind
  pub others : List (Result Answer ErrorKind)
  pub answered : answers ≡ first ++ answer ∷ others
  pub before : Run old earlier first found
  pub flush : SessionStep found calls.flush answer left
  pub ends : FlushEnds found answer left
  pub is_session : IsSession left
  pub after : Run left later others new

abbrev pub FlushesAreSteps : Type 0
FlushesAreSteps = (old new : Session) (earlier later : List Call) (answers : List (Result Answer ErrorKind))
    → IsSession old → AllByRecursion FitsCall earlier
    → Run old (earlier ++ calls.flush ∷ later) answers new → FlushAmong old earlier later answers new

-- the bytes are those that `image` answers
abbrev pub FlushHoldsImage : Type 0
FlushHoldsImage = (old new : Session) (answer : Answer) → old.state.is_unwritten ≡ true
    → SessionStep old calls.flush (Ok answer) new → image_of old.state (length old.held) ≡ Ok new.held

-- the bytes that `image` answers mean the package as it is, written or not, and opening them gives it with nothing
-- unwritten
pub record IsHeldBy (s : State) (bytes : List ℕ) : Type 0 where
  pub means : Means bytes (parts_of s)
  pub opens : (left : State) × (parts_of left ≡ parts_of s) × OpensTo bytes (Ok left)

abbrev pub ImagesMean : Type 0
ImagesMean = (s : State) (earlier_len : ℕ) (bytes : List ℕ) → IsPackage s → TextsAreWritable s
    → image_of s earlier_len ≡ Ok bytes → IsHeldBy s bytes

-- what is made, over a device of any length, and what is opened, over the bytes that it was read from, are sessions
abbrev pub CreatedIsSession : Type 0
CreatedIsSession = (kind : PackageType) (earlier_len : ℕ) (s : Session) → created_over kind earlier_len ≡ Ok s
    → IsSession s × IsExact s.state.kept.database

abbrev pub OpenedIsSession : Type 0
OpenedIsSession = (bytes : List ℕ) (s : State) → AreBytes bytes → OpensTo bytes (Ok s) → IsSession (opened bytes s)

-- any calls on a new package, and a last flush that is done
abbrev pub ReplaysMean : Type 0
ReplaysMean = (kind : PackageType) (sent : List Call) (answers : List (Result Answer ErrorKind)) (last left : Session)
    → AllByRecursion FitsCall sent → Run (created kind) sent answers last
    → SessionStep last calls.flush (Ok calls.done) left → IsReplay kind sent answers left.held

-- any calls on a package that was opened, and a last flush that is done
abbrev pub ReplaysOverMean : Type 0
ReplaysOverMean = (bytes : List ℕ) (start : State) (sent : List Call) (answers : List (Result Answer ErrorKind))
    (last left : Session) → AreBytes bytes → OpensTo bytes (Ok start) → AllByRecursion FitsCall sent
    → Run (opened bytes start) sent answers last → SessionStep last calls.flush (Ok calls.done) left
    → IsReplayOver bytes sent answers left.held

-- WHAT WAS WRITTEN IS OPENED AGAIN

-- the bytes mean what the accepted calls made, opening them gives the package that was left, and is never refused
pub record IsOpenedAgain (last left : Session) : Type 0 where
  pub means : Means left.held (parts_of last.state)
  pub opens : OpensTo left.held (Ok left.state)
  pub unrefused : (kind : ErrorKind) → OpensTo left.held (Err kind) → ⊥

-- a package from `create`, over a device of any length, after any calls and a flush that is done, if each of its texts
-- can be written in its page
abbrev pub CreatedAreOpened : Type 0
CreatedAreOpened = (kind : PackageType) (earlier_len : ℕ) (start last left : Session) (sent : List Call)
    (answers : List (Result Answer ErrorKind)) → created_over kind earlier_len ≡ Ok start
    → AllByRecursion FitsCall sent → Run start sent answers last
    → SessionStep last calls.flush (Ok calls.done) left → TextsAreWritable left.state → IsOpenedAgain last left
