-- Steps of reading in turn: the first that isn't passed decides.
use Rattle.std.specs.Prelude.{◌≡◌, ◌⊎◌, List, [], ◌∷◌}
use Rattle.msi_base.specs.declared.errors.ErrorKind.{ErrorKind}
use Rattle.msi_base.specs.declared.errors.ErrorKind.TheVariants.{OutOfMemory}

-- the kind is that of the first of these steps that isn't passed
abbrev pub FailsFirst : {S : Type 0} → (S → Type 0) → (S → ErrorKind) → List S → ErrorKind → Type 0
FailsFirst Passes kind_of [] kind = ⊥
FailsFirst Passes kind_of (s ∷ ss) kind =
    ((Passes s → ⊥) × (kind ≡ kind_of s)) ⊎ (Passes s × FailsFirst Passes kind_of ss kind)

-- why reading stops at one of these steps: the first that fails, or memory was refused
abbrev pub StopsAmong : {S : Type 0} → (S → Type 0) → (S → ErrorKind) → List S → ErrorKind → Type 0
StopsAmong Passes kind_of steps kind = (kind ≡ OutOfMemory) ⊎ FailsFirst Passes kind_of steps kind
