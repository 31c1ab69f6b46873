-- What a look answers where a call that it makes failed.
use Rattle.std.proofs.Common.{◌≡◌, ℕ, Bool, List, Option, Result, Ok, Err, ◌⊎◌, inl, inr, ◌∙◌, refl}
use Rattle.std.specs.Prelude.{IsErrAnd}
use Rattle.msi_base.specs.declared.errors.ErrorKind.{ErrorKind}
use Rattle.msi_base.specs.declared.errors.ErrorKind.TheVariants.{InvalidData, Io, OutOfMemory}
use Rattle.msi_container_device.specs.Held.{Held}
use Rattle.msi_container_view.specs.Reading.{Tells, Answers, IsReadRefusal}

-- an error of a kind that is not of the bytes
refused_as : {X : Type 0} (can_fail : Bool) (held : Option Held) (Found : List ℕ → X → Type 0) (Broken : List ℕ → Type 0) (e kind : ErrorKind) → e ≡ kind → IsReadRefusal can_fail kind → Answers can_fail held Found Broken (Err e)
refused_as can_fail held Found Broken e kind same (inl k) =
    let io : e ≡ Io = same ∙ k.0 in
    rw io (inl (refl, k.1))
refused_as can_fail held Found Broken e kind same (inr k) =
    let memory : e ≡ OutOfMemory = same ∙ k in
    rw memory (inr refl)

-- an error of a kind that may be of the bytes, where such bytes are broken
broken_as : {X : Type 0} (can_fail : Bool) (held : Option Held) (Found : List ℕ → X → Type 0) (Broken : List ℕ → Type 0) (e kind : ErrorKind) → e ≡ kind → (kind ≡ InvalidData) ⊎ (kind ≡ OutOfMemory) → (kind ≡ InvalidData → (file : List ℕ) → Tells held file → Broken file) → Answers can_fail held Found Broken (Err e)
broken_as can_fail held Found Broken e kind same (inl k) broken =
    let invalid : e ≡ InvalidData = same ∙ k in
    rw invalid (broken k)
broken_as can_fail held Found Broken e kind same (inr k) broken = refused_as can_fail held Found Broken e kind same (inr k)

pub broken_or_refused : {X : Type 0} (can_fail : Bool) (held : Option Held) (Found : List ℕ → X → Type 0) (Broken : List ℕ → Type 0) (r : Result X ErrorKind) (kind : ErrorKind) → IsErrAnd r (λ e. e ≡ kind) → (kind ≡ InvalidData) ⊎ (kind ≡ OutOfMemory) → (kind ≡ InvalidData → (file : List ℕ) → Tells held file → Broken file) → Answers can_fail held Found Broken r
broken_or_refused can_fail held Found Broken (Ok x) kind d k broken = absurd d
broken_or_refused can_fail held Found Broken (Err e) kind d k broken = broken_as can_fail held Found Broken e kind d k broken

-- invalid data is not for want of memory
pub not_memory : (kind : ErrorKind) → kind ≡ InvalidData → kind ≡ OutOfMemory → ⊥
not_memory kind a b = cc
