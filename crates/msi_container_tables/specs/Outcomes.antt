-- What a function that only reads hands back.
use Rattle.std.specs.Prelude.{◌≡◌, Option, Some, None, Result, Ok, Err, ◌⊎◌}
use Rattle.msi_base.specs.declared.errors.ErrorKind.{ErrorKind}
use Rattle.msi_base.specs.declared.errors.ErrorKind.TheVariants.{InvalidData, NotFound, OutOfMemory}

-- it is what there is: InvalidData where there is none
abbrev pub IsFrom : {X : Type 0} → Result X ErrorKind → Option X → Type 0
IsFrom (Ok x) o = o ≡ Some x
IsFrom (Err e) o = (e ≡ InvalidData) × (o ≡ None)

-- seen by view it is y, unless memory was refused
abbrev pub ViewIsUnlessMemory : {X Y : Type 0} → (X → Y) → Result X ErrorKind → Y → Type 0
ViewIsUnlessMemory view (Ok x) y = view x ≡ y
ViewIsUnlessMemory view (Err e) y = e ≡ OutOfMemory

-- it fails for its bytes or for want of memory
abbrev pub FailsByData : {X : Type 0} → Result X ErrorKind → Type 0
FailsByData (Ok x) = Unit {0}
FailsByData (Err e) = (e ≡ InvalidData) ⊎ (e ≡ OutOfMemory)

-- it fails for its bytes, for want of memory, or as not found where something is missing
abbrev pub FailsByPath : {X : Type 0} → Type 0 → Result X ErrorKind → Type 0
FailsByPath missing (Ok x) = Unit {0}
FailsByPath missing (Err e) = (e ≡ InvalidData) ⊎ (e ≡ OutOfMemory) ⊎ ((e ≡ NotFound) × missing)

-- it isn't found, unless memory was refused
abbrev pub IsNotFound : {X : Type 0} → Result X ErrorKind → Type 0
IsNotFound (Ok x) = ⊥
IsNotFound (Err e) = (e ≡ NotFound) ⊎ (e ≡ OutOfMemory)
