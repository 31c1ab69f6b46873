-- Answers that may be errors: what holds whatever was answered.
use Rattle.std.proofs.Common.{◌≡◌, Bool, true, false, if◌then◌else◌, Result, Ok, Err, ap, sym, ◌∙◌}
use Rattle.std.specs.Prelude.{IfErr, IsErrAnd, OnErr}
use Rattle.msi_base.specs.declared.errors.ErrorKind.{ErrorKind}
use Rattle.msi_base.specs.declared.errors.ErrorKind.TheVariants.{OutOfMemory}

-- what holds anyway holds on an error
pub on_err_from : {T E Q : Type 0} (r : Result T E) → Q → OnErr r Q
on_err_from (Ok x) q = tt
on_err_from (Err e) q = q

-- an error that is known, where there may be one
pub if_err_from : {T E : Type 0} (r : Result T E) (P : E → Type 0) → IsErrAnd r P → IfErr r P
if_err_from (Ok x) P known = tt
if_err_from (Err e) P known = known

-- an error that comes of memory alone, where there is an answer
pub memory_alone : {T : Type 0} (r : Result T ErrorKind) (there : Bool) (other : ErrorKind) → there ≡ true → IsErrAnd r (λ e. e ≡ OutOfMemory)
    → IfErr r (λ kind. kind ≡ (if there then OutOfMemory else other))
memory_alone (Ok x) there other t is = tt
memory_alone (Err e) there other t is = is ∙ ap (λ b. if b then OutOfMemory else other) (sym t)

-- an error that says that there is none
pub other_alone : (kind : ErrorKind) (there : Bool) (other : ErrorKind) → there ≡ false → kind ≡ other → kind ≡ (if there then OutOfMemory else other)
other_alone kind there other t is = is ∙ ap (λ b. if b then OutOfMemory else other) (sym t)
