-- An error that is passed on: there is no value, and its kind stays.
use Rattle.std.proofs.Common.{◌≡◌, ◌∙◌, Result, Ok, Err, inl}
use Rattle.std.specs.Prelude.{IfErr, IfOk, IsErrAnd, OnErr}
use Rattle.msi_base.specs.declared.errors.ErrorKind.{ErrorKind}
use Rattle.msi_base.specs.declared.errors.ErrorKind.TheVariants.{OutOfMemory}
use Rattle.msi_base.specs.Refusals.{IsRefusal}

-- there is no value
pub no_value : {A : Type 0} (P : A → Type 0) (r : Result A ErrorKind) (kind : ErrorKind) → IsErrAnd r (λ e. e ≡ kind) → IfOk r P
no_value P (Ok x) kind d = absurd d
no_value P (Err l) kind d = tt

-- what holds anyway holds on an error
pub on_error : {A : Type 0} (P : Type 0) (r : Result A ErrorKind) → P → OnErr r P
on_error P (Ok x) p = tt
on_error P (Err l) p = p

-- refused memory stays that
pub memory_passed : {A : Type 0} (r : Result A ErrorKind) (kind : ErrorKind) → IsErrAnd r (λ e. e ≡ kind) → kind ≡ OutOfMemory → IfErr r (λ e. e ≡ OutOfMemory)
memory_passed (Ok x) kind d m = tt
memory_passed (Err l) kind d m = d ∙ m

-- and is a refusal of every call
pub memory_refuses : {A B : Type 0} (r : Result A ErrorKind) (answer : Result B ErrorKind) → IfErr r (λ e. e ≡ OutOfMemory) → IfErr r (IsRefusal answer)
memory_refuses (Ok x) answer m = tt
memory_refuses (Err l) answer m = inl m

pub memory_refused : {A B : Type 0} (r : Result A ErrorKind) (kind : ErrorKind) (answer : Result B ErrorKind) → IsErrAnd r (λ e. e ≡ kind) → kind ≡ OutOfMemory → IfErr r (IsRefusal answer)
memory_refused (Ok x) kind answer d m = tt
memory_refused (Err l) kind answer d m = inl (d ∙ m)
