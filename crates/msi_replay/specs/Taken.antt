-- What calls on a package over a device do, and the session that such a package is.
use Rattle.std.specs.Prelude.{◌≡◌, ◌↔◌, ℕ, ◌⊎◌, Bool, true, IsTrue, List, [], length, is_some, unwrap_or}
use Rattle.std.specs.Prelude.{Result, Ok, Err}
use Rattle.std.specs.List.{AllByRecursion}
use Rattle.msi.specs.Text.ErrorKind.{ErrorKind}
use Rattle.msi.specs.Text.ErrorKind.TheVariants.{Io, OutOfMemory}
use Rattle.msi.specs.Container.Held.{bytes_told}
use Rattle.msi.specs.Calls.{Call, Answer}
use Rattle.msi.specs.Calls as calls
use Rattle.msi.specs.Steps.{Step, written_for}
use Rattle.msi.specs.Runs.{Session, SessionStep, Run, FitsCall, HoldsPackage, TextsAreWritable}
use Rattle.msi.specs.Writable.{HasUtf8Pages}
use Rattle.msi.specs.Whole.{Whole}

-- a call that calls no device
pub record Takes (old : Whole) (call : Call) (answer : Result Answer ErrorKind) (new : Whole) : Type 0 where
  pub step : (earlier_len : ℕ) → Step earlier_len old.state call answer new.state
  pub held : new.held ≡ old.held
  pub failed : new.failed ≡ old.failed

-- the device tells its bytes
abbrev pub Tells : Whole → Type 0
Tells w = is_some (bytes_told w.held) ≡ true

abbrev pub session_at : Whole → Session
session_at w = record { state = w.state; held = unwrap_or (bytes_told w.held) []; failed = w.failed }

-- The calls were carried out on a package over a device, and it was flushed: the bytes are those that the device holds,
-- and it is known whether each text of the package can be written in its page, as each can where both pages are UTF-8
pub record Ends (start : Session) (sent : List Call) (answers : List (Result Answer ErrorKind))
    (bytes : List ℕ) (is_writable : Bool) : Type 0 where
  pub last : Session
  pub left : Session
  pub fits : AllByRecursion FitsCall sent
  pub run : Run start sent answers last
  pub flush : SessionStep last calls.flush (Ok calls.done) left
  pub held : bytes ≡ left.held
  pub exact : IsTrue is_writable ↔ TextsAreWritable left.state
  pub utf8 : HasUtf8Pages left.state → IsTrue is_writable

-- If each can, the bytes mean the package that was left, and opening them gives it
pub record HoldsIfWritable (start : Session) (sent : List Call) (answers : List (Result Answer ErrorKind))
    (bytes : List ℕ) (is_writable : Bool) : Type 0 where
  pub ended : Ends start sent answers bytes is_writable
  pub holds : IsTrue is_writable → HoldsPackage ended.left

-- it is refused only for want of memory, for a fault of the device, or as the last flush was
abbrev pub IsEndRefused : Session → List Call → ErrorKind → Type 0
IsEndRefused start sent error = (error ≡ OutOfMemory) ⊎ (error ≡ Io)
    ⊎ ((answers : List (Result Answer ErrorKind)) × (last : Session) × Run start sent answers last
    × (written_for last.state (length last.held) ≡ Err error))
