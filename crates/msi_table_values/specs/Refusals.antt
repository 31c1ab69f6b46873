-- What an error tells beside a definition that may give nothing.
use Rattle.std.specs.Prelude.{◌≡◌, Option, Result, IfErr, is_some, if◌then◌else◌}
use Rattle.msi_base.specs.declared.errors.ErrorKind.{ErrorKind}
use Rattle.msi_base.specs.declared.errors.ErrorKind.TheVariants.{OutOfMemory}

-- where the definition gives nothing, the error is of this kind; else memory was refused
abbrev pub FailsWith : {X Y : Type 0} → ErrorKind → Result X ErrorKind → Option Y → Type 0
FailsWith refusal result answer = IfErr result (λ kind. kind ≡ (if is_some answer then OutOfMemory else refusal))
