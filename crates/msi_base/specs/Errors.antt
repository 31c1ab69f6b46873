-- The six kinds of errors.
use Rattle.std.specs.Prelude.{ℕ, List, codes}
use Rattle.msi_base.specs.declared.errors.ErrorKind.{ErrorKind}
use Rattle.msi_base.specs.declared.errors.ErrorKind.TheVariants as kind

-- how a kind prints
abbrev pub kind_name : ErrorKind → List ℕ
kind_name kind.AlreadyExists = codes "AlreadyExists"
kind_name kind.InvalidData = codes "InvalidData"
kind_name kind.InvalidInput = codes "InvalidInput"
kind_name kind.NotFound = codes "NotFound"
kind_name kind.Io = codes "Io"
kind_name kind.OutOfMemory = codes "OutOfMemory"
