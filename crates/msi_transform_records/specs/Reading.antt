-- What functions that read and take no memory return.
use Rattle.std.specs.Prelude.{◌≡◌, Result, Ok, Err, Option, Some, None}
use Rattle.msi_base.specs.declared.errors.ErrorKind.{ErrorKind}
use Rattle.msi_base.specs.declared.errors.ErrorKind.TheVariants.{InvalidData}

-- what a function returned, seen by view, is what reading gives: where that is nothing, the data is invalid
abbrev pub Reads : {X Y : Type 0} → (X → Y) → Result X ErrorKind → Option Y → Type 0
Reads view (Ok x) read = read ≡ Some (view x)
Reads view (Err e) read = (e ≡ InvalidData) × (read ≡ None)
