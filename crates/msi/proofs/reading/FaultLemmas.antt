-- Which errors are no faults of a source or a device.
use Rattle.std.proofs.Common.{◌≡◌, false, Option, Result, Ok, Err, refl, ap, ◌∙◌, inl, inr}
use Rattle.std.specs.Prelude.{IfErr, IsErrAnd}
use Rattle.msi_base.specs.declared.errors.ErrorKind.{ErrorKind}
use Rattle.msi_base.specs.declared.errors.ErrorKind.TheVariants.{AlreadyExists, InvalidData, InvalidInput, Io, NotFound, OutOfMemory}
use Rattle.msi_container_device.specs.Faults.{is_io}
use Rattle.msi_base.specs.Refusals.{IsRefusal, or_refused}
use Rattle.msi_database_storage.specs.Streams.{Streams}
use Rattle.msi.specs.Flushing.{is_fault}
use Rattle.msi.proofs.writing.FlushStepLemmas.{only_input}

-- a fault is one whatever else may be returned
fault_in : (A : Type 0) (kind : ErrorKind) → is_io {T = A} (Err kind) ≡ is_fault kind
fault_in A AlreadyExists = refl
fault_in A InvalidData = refl
fault_in A InvalidInput = refl
fault_in A Io = refl
fault_in A NotFound = refl
fault_in A OutOfMemory = refl

module _ {A : Type 0} where
  -- an error that is passed on
  pub passed_faultless : (r : Result A ErrorKind) (kind : ErrorKind) → IsErrAnd r (λ e. e ≡ kind) → is_fault kind ≡ false → is_io r ≡ false
  passed_faultless (Ok x) kind e h = refl
  passed_faultless (Err other) kind e h = fault_in A other ∙ ap is_fault e ∙ h

  -- want of memory
  pub memory_faultless : (r : Result A ErrorKind) → IfErr r (λ kind. kind ≡ OutOfMemory) → is_io r ≡ false
  memory_faultless (Ok x) memory = refl
  memory_faultless (Err kind) memory = fault_in A kind ∙ ap is_fault memory

-- want of memory, or a text that can't be written
pub unwritten_faultless : (o : Option Streams) (kind : ErrorKind) → IsRefusal (or_refused InvalidInput o) kind → is_fault kind ≡ false
unwritten_faultless o kind (inl memory) = ap is_fault memory
unwritten_faultless o kind (inr refused) = ap is_fault (only_input o kind refused)
