-- Runs of calls on a package, and what its bytes mean in the end.
use Rattle.std.specs.Prelude.{◌≡◌, ℕ, ◌⊎◌, Bool, true, false, List, [], ◌∷◌, ◌++◌, length, take, drop, unwrap_or}
use Rattle.std.specs.Prelude.{Result, Ok, Err, MatchBool}
use Rattle.std.specs.List.{AllByRecursion}
use Rattle.std.specs.Str.{IsUtf8}
use Rattle.msi_base.specs.Refusals.{◌>>=◌}
use Rattle.msi_base.specs.declared.errors.ErrorKind.{ErrorKind}
use Rattle.msi_base.specs.declared.errors.ErrorKind.TheVariants.{Io, OutOfMemory}
use Rattle.msi_pool.specs.Pool as pools
use Rattle.msi_summary.specs.Summary.{new_summary}
use Rattle.msi_summary.specs.PropertyStream as properties
use Rattle.msi_container_write.specs.Layout.{layout}
use Rattle.msi_database.specs.Database.{CountsAreExact, Database, is_sound}
use Rattle.msi_database.specs.Laws.{KeysAreDistinct}
use Rattle.msi_database.specs.Fresh as databases
use Rattle.msi.specs.declared.kinds.PackageType.{PackageType}
use Rattle.msi.specs.Kinds.{title_of}
use Rattle.msi.specs.State.{State, parts_of}
use Rattle.msi.specs.Meaning.{IsPackage, Means, OpensTo}
use Rattle.msi.specs.Calls.{Call, Answer}
use Rattle.msi.specs.Calls as calls
use Rattle.msi.specs.Lent.{FitsSummaryCall}
use Rattle.msi.specs.Steps.{Step, streams_written, contents_of, as_written, written_for, image_of}

-- a new package before its first write, and after it
abbrev pub unwritten : PackageType → State
unwritten kind = record {
  kind = kind;
  summary = new_summary (title_of kind);
  kept = databases.fresh;
  has_storages = false;
  is_unwritten = true;
  is_summary_lent = true;
  is_pool_changed = true;
}

abbrev pub fresh : PackageType → State
fresh kind = as_written (unwritten kind) (unwrap_or (streams_written (unwritten kind)) [])

-- A package, the bytes that its device holds, and whether a call of the device failed since the flag was cleared
pub record Session : Type 0 where
  pub state : State
  pub held : List ℕ
  pub failed : Bool

-- what `create` answers over a device that holds so many bytes, whatever they are
abbrev pub created_over : PackageType → ℕ → Result Session ErrorKind
created_over kind earlier_len = written_for (unwritten kind) earlier_len >>= λ streams. Ok (record {
  state = as_written (unwritten kind) streams;
  held = layout (contents_of (unwritten kind) streams) earlier_len;
  failed = false;
})

abbrev pub created : PackageType → Session
created kind = record {
  state = fresh kind;
  held = layout (contents_of (fresh kind) (fresh kind).kept.streams) 0;
  failed = false;
}

-- Only a writing flush calls the device. It clears the flag, and answers Io exactly where the flag is set in it: then a
-- beginning of the image stands over the front of the old bytes. Before its first write it may be refused: then the
-- bytes stay
abbrev pub result_or : {A : Type 0} → A → Result A ErrorKind → A
result_or x (Ok y) = y
result_or x (Err kind) = x

abbrev pub image_over : Session → List ℕ
image_over s = result_or s.held (image_of s.state (length s.held))

abbrev pub FlushLeaves : Session → Result Answer ErrorKind → Session → Type 0
FlushLeaves old (Ok answer) new =
    (new.held ≡ layout (contents_of new.state new.state.kept.streams) (length old.held)) × (new.failed ≡ false)
FlushLeaves old (Err Io) new =
    (k : ℕ) × (new.held ≡ take k (image_over old) ++ drop k old.held) × (new.failed ≡ true)
FlushLeaves old (Err kind) new = (new.held ≡ old.held) × (new.failed ≡ false)

abbrev pub SameDevice : Session → Session → Type 0
SameDevice old new = (new.held ≡ old.held) × (new.failed ≡ old.failed)

abbrev pub SessionStep : Session → Call → Result Answer ErrorKind → Session → Type 0
SessionStep old calls.device_failed answer new = (answer ≡ Ok (calls.flag_is old.failed)) × (new ≡ old)
SessionStep old calls.flush answer new = Step (length old.held) old.state calls.flush answer new.state
    × MatchBool old.state.is_unwritten (FlushLeaves old answer new) (SameDevice old new)
SessionStep old call answer new = Step (length old.held) old.state call answer new.state × SameDevice old new

abbrev pub Run : Session → List Call → List (Result Answer ErrorKind) → Session → Type 0
Run old [] [] new = new ≡ old
Run old (c ∷ cs) (a ∷ others) new = (mid : Session) × SessionStep old c a mid × Run mid cs others new
Run old [] (a ∷ others) new = ⊥
Run old (c ∷ cs) [] new = ⊥

-- calls whose numbers their types hold, and whose names of streams are texts
abbrev pub FitsCall : Call → Type 0
FitsCall (calls.summary_info_mut summary_calls) = AllByRecursion FitsSummaryCall summary_calls
FitsCall (calls.write_stream name stream_calls) = IsUtf8 name
FitsCall calls.package_type = Unit {0}
FitsCall calls.database_codepage = Unit {0}
FitsCall (calls.has_table name) = Unit {0}
FitsCall (calls.get_table name) = Unit {0}
FitsCall calls.tables = Unit {0}
FitsCall (calls.has_stream name) = Unit {0}
FitsCall calls.streams = Unit {0}
FitsCall calls.has_digital_signature = Unit {0}
FitsCall (calls.select_rows query) = Unit {0}
FitsCall (calls.insert_rows query) = Unit {0}
FitsCall (calls.update_rows query) = Unit {0}
FitsCall (calls.delete_rows query) = Unit {0}
FitsCall (calls.create_table name columns) = Unit {0}
FitsCall (calls.drop_table name) = Unit {0}
FitsCall (calls.add_column name column) = Unit {0}
FitsCall (calls.apply_transform t passing) = Unit {0}
FitsCall (calls.set_database_codepage page) = Unit {0}
FitsCall (calls.remove_stream name) = Unit {0}
FitsCall calls.remove_digital_signature = Unit {0}
FitsCall calls.recount = Unit {0}
FitsCall (calls.image n) = Unit {0}
FitsCall calls.flush = Unit {0}
FitsCall calls.device_failed = Unit {0}
FitsCall (calls.summary_info questions) = Unit {0}
FitsCall (calls.read_stream name stream_calls) = Unit {0}

-- none of these calls applies a transform
abbrev pub is_transform : Call → Bool
is_transform (calls.apply_transform t passing) = true
is_transform _ = false

abbrev pub ApplyNoTransform : List Call → Type 0
ApplyNoTransform sent = AllByRecursion (λ call. is_transform call ≡ false) sent

-- each text of the pool and the summary can be written in its page
abbrev pub TextsAreWritable : State → Type 0
TextsAreWritable s = pools.AreWritable s.kept.database.pool × properties.AreWritable s.summary

-- what the device holds means the package, and opens to it
pub record HoldsPackage (s : Session) : Type 0 where
  pub means : Means s.held (parts_of s.state)
  pub opens : OpensTo s.held (Ok s.state)

-- A package over its device: with nothing unwritten the device holds it, where its texts can be written; else whatever
-- bytes it holds
pub record IsSession (s : Session) : Type 0 where
  pub is_package : IsPackage s.state
  pub held : s.state.is_unwritten ≡ false → TextsAreWritable s.state → HoldsPackage s

-- a package that was opened from the bytes that its device holds
abbrev pub opened : List ℕ → State → Session
opened bytes s = record { state = s; held = bytes; failed = false }

-- The calls were carried out on a new package and it was flushed: the bytes mean what the accepted calls define,
-- opening them gives the package that was left, and each count is the number of its cells. No two rows of a table share
-- a key, where no call applies a transform
pub record IsReplay (kind : PackageType) (sent : List Call) (answers : List (Result Answer ErrorKind))
    (bytes : List ℕ) : Type 0 where
  pub last : Session
  pub left : Session
  pub run : Run (created kind) sent answers last
  pub flush : SessionStep last calls.flush (Ok calls.done) left
  pub held : bytes ≡ left.held
  pub means : TextsAreWritable left.state → HoldsPackage left
  pub counts : CountsAreExact left.state.kept.database
  pub keys : ApplyNoTransform sent → KeysAreDistinct left.state.kept.database

-- a replay is refused only for want of memory, for a fault of the device, or as its last flush or the making of the
-- package was
abbrev pub IsReplayRefused : PackageType → List Call → ErrorKind → Type 0
IsReplayRefused kind sent error = (error ≡ OutOfMemory) ⊎ (error ≡ Io)
    ⊎ (written_for (unwritten kind) 0 ≡ Err error)
    ⊎ ((answers : List (Result Answer ErrorKind)) × (last : Session) × Run (created kind) sent answers last
    × (written_for last.state (length last.held) ≡ Err error))

-- a sound database, each count of which is the number of its cells
pub record HasExactCounts (d : Database) : Type 0 where
  pub sound : is_sound d ≡ true
  pub counts : CountsAreExact d

-- the first call is a recount, and it is accepted
abbrev pub BeginsRecounted : List Call → List (Result Answer ErrorKind) → Type 0
BeginsRecounted (calls.recount ∷ later) (Ok answer ∷ others) = Unit {0}
BeginsRecounted _ _ = ⊥

-- The calls were carried out on the package that the bytes open to, and it was flushed: the bytes that are left mean
-- what the accepted calls define, and opening them gives the package that was left. A sound database stays sound, so no
-- count is below the number of its cells; exact counts stay exact, and distinct keys distinct where no call applies a
-- transform. After a recount first of all the database is sound, and each count is the number of its cells
pub record IsReplayOver (bytes : List ℕ) (sent : List Call) (answers : List (Result Answer ErrorKind))
    (written : List ℕ) : Type 0 where
  pub start : State
  pub last : Session
  pub left : Session
  pub opens : OpensTo bytes (Ok start)
  pub run : Run (opened bytes start) sent answers last
  pub flush : SessionStep last calls.flush (Ok calls.done) left
  pub held : written ≡ left.held
  pub means : TextsAreWritable left.state → HoldsPackage left
  pub sound : is_sound start.kept.database ≡ true → is_sound left.state.kept.database ≡ true
  pub counts : is_sound start.kept.database ≡ true
      → CountsAreExact start.kept.database → CountsAreExact left.state.kept.database
  pub keys : ApplyNoTransform sent → is_sound start.kept.database ≡ true
      → KeysAreDistinct start.kept.database → KeysAreDistinct left.state.kept.database
  pub recounted : BeginsRecounted sent answers → HasExactCounts left.state.kept.database

-- it is refused only for want of memory, for a fault of the device, or as opening the bytes or the last flush was
abbrev pub IsReplayOverRefused : List ℕ → List Call → ErrorKind → Type 0
IsReplayOverRefused bytes sent error = (error ≡ OutOfMemory) ⊎ (error ≡ Io) ⊎ OpensTo bytes (Err error)
    ⊎ ((start : State) × (answers : List (Result Answer ErrorKind)) × (last : Session)
    × OpensTo bytes (Ok start) × Run (opened bytes start) sent answers last
    × (written_for last.state (length last.held) ≡ Err error))
