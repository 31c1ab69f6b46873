-- Which of the six kinds a fault of a reader, a writer or a file is, and what a writer that fails has.
use Rattle.std.specs.Prelude.{ℕ, ◌<◌, ◌≤◌, List, length, take, Option, IfSome}
use Rattle.std.specs.Io.KnownBytes.{Appends}
use Rattle.std.specs.declared.io.ErrorKind.{ErrorKind as FaultKind}
use Rattle.std.specs.declared.io.ErrorKind.TheVariants as fault
use Rattle.msi_base.specs.declared.errors.ErrorKind.{ErrorKind}
use Rattle.msi_base.specs.declared.errors.ErrorKind.TheVariants.{Io, OutOfMemory}

-- want of memory, or a device's fault
abbrev pub kind_of_fault : FaultKind → ErrorKind
kind_of_fault fault.OutOfMemory = OutOfMemory
kind_of_fault kind = Io

-- where a reader's bytes are known, there are fewer than n
abbrev pub HasFewer : Option (List ℕ) → ℕ → Type 0
HasFewer known n = IfSome known (λ left. length left < n)

-- a writer took the first of these bytes, perhaps none
abbrev pub AppendsPart : Option (List ℕ) → Option (List ℕ) → List ℕ → Type 0
AppendsPart old new bytes = (n : ℕ) × (n ≤ length bytes) × Appends old new (take n bytes)
