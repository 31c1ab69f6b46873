-- Which of the six kinds the errors of readers and writers tell.
use Rattle.std.specs.Prelude.{Result, Ok, Err}
use Rattle.std.specs.IoError.{error_kind}
use Rattle.std.specs.declared.io.Error.{Error}
use Rattle.std.specs.declared.io.ErrorKind.{ErrorKind as FaultKind}
use Rattle.std.specs.declared.io.ErrorKind.TheVariants as fault
use Rattle.msi_base.specs.declared.errors.ErrorKind.{ErrorKind}
use Rattle.msi_base.specs.declared.errors.ErrorKind.TheVariants as kind

-- the kind of this name, where there is one
abbrev pub kind_named : FaultKind → ErrorKind
kind_named fault.AlreadyExists = kind.AlreadyExists
kind_named fault.InvalidData = kind.InvalidData
kind_named fault.InvalidInput = kind.InvalidInput
kind_named fault.NotFound = kind.NotFound
kind_named fault.OutOfMemory = kind.OutOfMemory
kind_named name = kind.Io

-- what was answered, with an error as its kind
abbrev pub told : {T : Type 0} → Result T Error → Result T ErrorKind
told (Ok value) = Ok value
told (Err error) = Err (kind_named (error_kind error))
