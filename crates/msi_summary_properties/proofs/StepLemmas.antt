-- Steps of reading: one that fails, and one that gives something.
use Rattle.std.proofs.Common.{◌≡◌, Option, Some, None, refl, ap}
use Rattle.msi_base.specs.declared.errors.ErrorKind.{ErrorKind}
use Rattle.msi_base.specs.declared.errors.ErrorKind.TheVariants as kind
use Rattle.msi_base.specs.Results.{◌>>=◌, FailsAs}

-- where a step fails, all fails
pub bind_fails : {A B : Type 0} (e : ErrorKind) (r : Option A) (f : A → Option B) → FailsAs e r → FailsAs e (r >>= f)
bind_fails kind.AlreadyExists r f fails = absurd fails
bind_fails kind.InvalidData r f fails = ap (λ o. o >>= f) fails
bind_fails kind.InvalidInput r f fails = absurd fails
bind_fails kind.NotFound r f fails = absurd fails
bind_fails kind.Io r f fails = absurd fails
bind_fails kind.OutOfMemory r f fails = tt

-- a step that gave something, with its value as a variable
pub bind_then : {A B P : Type 0} (r : Option A) (f : A → Option B) (y : B) → (r >>= f) ≡ Some y → ((x : A) → r ≡ Some x → f x ≡ Some y → P) → P
bind_then (Some x) f y e then = then x refl e
bind_then None f y e then = absurd cc
