-- What a flush does to the streams of a package, and to what its device holds.
use Rattle.std.specs.Prelude.{◌≡◌, ℕ, ◌⊎◌, Bool, true, false, List, ◌++◌, length, take, drop, Option, Some}
use Rattle.std.specs.Prelude.{option_map, IfSome, Result, Ok, Err, MatchBool, if◌then◌else◌}
use Rattle.std.specs.List.{AllByRecursion}
use Rattle.std.specs.FinMap.{from_sorted}
use Rattle.msi_base.specs.declared.errors.ErrorKind.{ErrorKind}
use Rattle.msi_base.specs.declared.errors.ErrorKind.TheVariants.{InvalidInput, Io, OutOfMemory}
use Rattle.msi_summary.specs.Properties.{Properties}
use Rattle.msi_container_device.specs.Faults.{is_io}
use Rattle.msi_container_device.specs.Held.{Held, bytes_told}
use Rattle.msi_container_format.specs.declared.contents.Contents.{Contents}
use Rattle.msi_container_write.specs.Layout.{layout, refuses}
use Rattle.msi_database.specs.Database.{Database}
use Rattle.msi_database_storage.specs.Kept.{Kept}
use Rattle.msi_database_storage.specs.Streams.{Streams}
use Rattle.msi_database.specs.Others.{IsOther}
use Rattle.msi.specs.declared.kinds.PackageType.{PackageType}
use Rattle.msi.specs.Kinds.{clsid_of}
use Rattle.msi.specs.Calls.{Answer}
use Rattle.msi.specs.Calls as calls
use Rattle.msi.specs.State.{State}
use Rattle.msi.specs.Steps.{Step, answer_of, as_written, contents_of, image_of, written_for}
use Rattle.msi.specs.Runs.{Session, created_over, result_or, unwritten}
use Rattle.msi.specs.Whole.{Whole, state_of}

-- STREAMS

-- none of these has the name of a table's stream
abbrev pub AreOthers : Database → Streams → Type 0
AreOthers d renewed = AllByRecursion (λ r. IsOther d r.0) renewed

-- THE DEVICE

-- the bytes that a device holds, where it tells them, and whether a call of it failed
pub record Told : Type 0 where
  pub bytes : Option (List ℕ)
  pub failed : Bool

abbrev pub told : Option Held → Bool → Told
told held failed = record { bytes = bytes_told held; failed = failed }

abbrev pub told_by : Whole → Told
told_by w = told w.held w.failed

-- an error that is a fault of the device
abbrev pub is_fault : ErrorKind → Bool
is_fault kind = is_io {T = Unit {0}} (Err kind)

-- so many bytes are held
abbrev pub AreSoMany : ℕ → Told → Type 0
AreSoMany n old = IfSome old.bytes (λ bytes. n ≡ length bytes)

-- nothing was written, though the flag may be cleared
abbrev pub LeavesBytes : Told → Told → Type 0
LeavesBytes old new = (new.bytes ≡ old.bytes) × ((new.failed ≡ false) ⊎ (new.failed ≡ old.failed))

-- nothing was written, and the flag is cleared
abbrev pub LeavesCleared : Told → Told → Type 0
LeavesCleared old new = (new.bytes ≡ old.bytes) × (new.failed ≡ false)

-- a beginning of an image over the front of bytes
abbrev pub begun_over : ℕ → List ℕ → List ℕ → List ℕ
begun_over k image bytes = take k image ++ drop k bytes

-- The contents were written over all of `n` bytes; or a beginning of them, none of those that are refused; or nothing
abbrev pub Writes : {A : Type 0} → Contents → ℕ → Told → Result A ErrorKind → Told → Type 0
Writes c n old (Ok done) new = (refuses c n ≡ false)
    × (new.bytes ≡ option_map (λ _. layout c n) old.bytes) × (new.failed ≡ false)
Writes c n old (Err InvalidInput) new = (refuses c n ≡ true) × LeavesBytes old new
Writes c n old (Err OutOfMemory) new = LeavesBytes old new
Writes c n old (Err Io) new = (k : ℕ)
    × (new.bytes ≡ option_map (λ bytes. begun_over k (if refuses c n then bytes else layout c n) bytes) old.bytes)
    × (new.failed ≡ true)
Writes c n old (Err kind) new = ⊥

pub record Overwrites {A : Type 0} (c : Contents) (old : Told) (answer : Result A ErrorKind) (new : Told) : Type 0 where
  pub earlier_len : ℕ
  pub are_so_many : AreSoMany earlier_len old
  pub writes : Writes c earlier_len old answer new

-- the contents of a package of a kind
abbrev pub root_contents : PackageType → Bool → Streams → Contents
root_contents kind has_storages streams = record {
  clsid = clsid_of kind;
  streams = from_sorted streams;
  has_storages = has_storages;
}

-- THE CALL

abbrev pub flush_answer : Result (Unit {0}) ErrorKind → Result Answer ErrorKind
flush_answer answer = answer_of (λ _. calls.done) answer

-- after a flush that wrote, over `n` bytes: as `FlushLeaves`, where the device tells its bytes
abbrev pub FlushTells : ℕ → Whole → Result Answer ErrorKind → Whole → Type 0
FlushTells n old (Ok answer) new = (bytes_told new.held
    ≡ option_map (λ _. layout (contents_of new.state new.state.kept.streams) n) (bytes_told old.held))
    × (new.failed ≡ false)
FlushTells n old (Err Io) new = (k : ℕ) × (bytes_told new.held
    ≡ option_map (λ bytes. begun_over k (result_or bytes (image_of old.state n)) bytes) (bytes_told old.held))
    × (new.failed ≡ true)
FlushTells n old (Err kind) new = LeavesCleared (told_by old) (told_by new)

-- what a flush answers and leaves; a package with nothing unwritten calls no device
pub record FlushStep (old : Whole) (answer : Result Answer ErrorKind) (new : Whole) : Type 0 where
  pub earlier_len : ℕ
  pub are_so_many : AreSoMany earlier_len (told_by old)
  pub step : Step earlier_len old.state calls.flush answer new.state
  pub device : MatchBool old.state.is_unwritten (FlushTells earlier_len old answer new)
      ((new.held ≡ old.held) × (new.failed ≡ old.failed))

-- the session of a package whose device tells its bytes
abbrev pub session_of : Whole → List ℕ → Session
session_of w held = record { state = w.state; held = held; failed = w.failed }

-- an unwritten package's state, what a flush of it leaves, and a state over a device
abbrev pub unwritten_of : PackageType → Bool → Properties → Bool → Kept → Bool → State
unwritten_of kind has_storages summary is_lent k is_changed =
    state_of kind summary k has_storages true is_lent is_changed

abbrev pub left_by : {A : Type 0} → Result A ErrorKind → State → Kept → State
left_by (Ok done) s k = as_written s k.streams
left_by (Err kind) s k = s

abbrev pub over_device : State → Option Held → Bool → Bool → Whole
over_device s held failed pending = record { state = s; held = held; failed = failed; pending = pending }

-- A NEW PACKAGE

-- over a device that tells its bytes it is the session that `created_over` gives
abbrev pub IsCreated : PackageType → Told → Whole → Type 0
IsCreated kind old new = IfSome old.bytes (λ bytes. (left : List ℕ) × (bytes_told new.held ≡ Some left)
    × (created_over kind (length bytes) ≡ Ok (session_of new left)))

abbrev pub IsCreateRefused : PackageType → Told → ErrorKind → Type 0
IsCreateRefused kind old error = (error ≡ OutOfMemory) ⊎ (error ≡ Io)
    ⊎ ((n : ℕ) × AreSoMany n old × (written_for (unwritten kind) n ≡ Err error))
