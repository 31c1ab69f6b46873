-- What functions return: what reading gives, and the errors that may come in its place.
use Rattle.std.specs.Prelude.{◌≡◌, ◌⊎◌, Result, Ok, Err, Option, Some, None, IfErr}
use Rattle.msi_base.specs.declared.errors.ErrorKind.{ErrorKind}
use Rattle.msi_base.specs.declared.errors.ErrorKind.TheVariants as kind

-- steps that each may give nothing
infixl 10 ◌>>=◌
abbrev pub ◌>>=◌ : {A B : Type 0} → Option A → (A → Option B) → Option B
(Some x) >>= f = f x
None >>= f = None

-- an error stands for reading that gives nothing, or tells that memory was refused
abbrev pub FailsAs : {Y : Type 0} → ErrorKind → Option Y → Type 0
FailsAs kind.InvalidData read = read ≡ None
FailsAs kind.OutOfMemory read = Unit {0}
FailsAs _ read = ⊥

-- what a function returned, seen by view, is what reading gives, unless memory was refused
abbrev pub Gives : {X Y : Type 0} → (X → Y) → Result X ErrorKind → Option Y → Type 0
Gives view (Ok x) read = read ≡ Some (view x)
Gives view (Err e) read = FailsAs e read

-- what a function returned is this, unless memory was refused
abbrev pub IsUnlessMemory : {X : Type 0} → Result X ErrorKind → X → Type 0
IsUnlessMemory (Ok x) y = x ≡ y
IsUnlessMemory (Err e) y = e ≡ kind.OutOfMemory

-- what a function that takes a reader returned is this, unless memory was refused or the reader failed
abbrev pub IsUnlessFault : {X : Type 0} → Result X ErrorKind → X → Type 0
IsUnlessFault (Ok x) y = x ≡ y
IsUnlessFault (Err e) y = (e ≡ kind.OutOfMemory) ⊎ (e ≡ kind.Io)

-- why a stream is not read
abbrev pub IsStreamFault : ErrorKind → Type 0
IsStreamFault e = (e ≡ kind.InvalidData) ⊎ (e ≡ kind.OutOfMemory) ⊎ (e ≡ kind.Io)

-- there is no error but a refused growth
abbrev pub OnlyMemory : {X : Type 0} → Result X ErrorKind → Type 0
OnlyMemory result = IfErr result (λ e. e ≡ kind.OutOfMemory)
