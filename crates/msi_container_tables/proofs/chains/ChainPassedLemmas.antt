-- An error that is passed on keeps its kind.
use Rattle.std.proofs.Common.{◌≡◌, ◌∙◌, Result, Ok, Err, ◌⊎◌, inl, inr}
use Rattle.std.specs.Prelude.{IsErrAnd}
use Rattle.msi_base.specs.declared.errors.ErrorKind.{ErrorKind}
use Rattle.msi_base.specs.declared.errors.ErrorKind.TheVariants.{InvalidData, OutOfMemory}
use Rattle.msi_container_tables.specs.Outcomes.{ViewIsUnlessMemory, FailsByData}

-- it is for the bytes or for memory, as it was
pub kind_passed : {X : Type 0} (r : Result X ErrorKind) (kind : ErrorKind) → IsErrAnd r (λ e. e ≡ kind) → (kind ≡ InvalidData) ⊎ (kind ≡ OutOfMemory) → FailsByData r
kind_passed (Ok x) kind d k = absurd d
kind_passed (Err e) kind d (inl k) = inl (d ∙ k)
kind_passed (Err e) kind d (inr k) = inr (d ∙ k)

-- refused memory is allowed at any view
pub memory_viewed : {X Y : Type 0} (view : X → Y) (r : Result X ErrorKind) (y : Y) → IsErrAnd r (λ e. e ≡ OutOfMemory) → ViewIsUnlessMemory view r y
memory_viewed view (Ok x) y d = absurd d
memory_viewed view (Err e) y d = d
