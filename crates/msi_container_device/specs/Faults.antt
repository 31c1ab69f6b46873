-- Which calls of a source or a device are faults.
use Rattle.std.specs.Prelude.{ℕ, ◌==◌, ◌&&◌, nat_lt, Bool, true, false, List, length, Result, Ok, Err}
use Rattle.msi_base.specs.declared.errors.ErrorKind.{ErrorKind}
use Rattle.msi_base.specs.declared.errors.ErrorKind.TheVariants.{Io}

-- whether a write is a fault: it fails, or takes no byte of a piece that has some
abbrev pub is_write_fault : {E : Type 0} → List ℕ → Result ℕ E → Bool
is_write_fault piece (Ok n) = (n == 0) && nat_lt 0 (length piece)
is_write_fault piece (Err error) = true

-- whether the answer is a fault of the device
abbrev pub is_io : {T : Type 0} → Result T ErrorKind → Bool
is_io (Err Io) = true
is_io answer = false

-- a value, whether a call of it failed, and whether something was written that was not yet passed on
pub record Watched (F : Type 0) : Type 0 where
  pub inner : F
  pub failed : Bool
  pub pending : Bool
