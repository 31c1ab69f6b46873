-- Steps of reading in turn.
use Rattle.std.proofs.Common.{◌≡◌, List, [], ◌∷◌, ◌++◌, map, Result, Ok, Err, sym, subst, ◌∙◌, inl, inr}
use Rattle.std.specs.Prelude.{◌⊎◌, IfErr, IsErrAnd}
use Rattle.std.specs.List.{AllByRecursion}
use Rattle.msi_base.specs.declared.errors.ErrorKind.{ErrorKind}
use Rattle.msi_base.specs.declared.errors.ErrorKind.TheVariants.{InvalidData, OutOfMemory}
use Rattle.msi_base.specs.Results.{IsUnlessMemory}
use Rattle.msi_transform.specs.ReadSteps.{FailsFirst, StopsAmong}

InvalidData≢OutOfMemory : InvalidData ≡ OutOfMemory → ⊥
InvalidData≢OutOfMemory e = cc

pub not_memory : (kind : ErrorKind) → kind ≡ InvalidData → kind ≡ OutOfMemory → ⊥
not_memory kind is memory = InvalidData≢OutOfMemory (sym is ∙ memory)

-- an error that is passed on
pub passed_on : {A : Type 0} (P : ErrorKind → Type 0) (r : Result A ErrorKind) (kind : ErrorKind) → IsErrAnd r (λ e. e ≡ kind) → P kind → IfErr r P
passed_on P (Ok x) kind e h = tt
passed_on P (Err k) kind e h = subst P (sym e) h

-- want of memory that is passed on
pub memory_passed : {A : Type 0} (r : Result A ErrorKind) (kind : ErrorKind) (x : A) → IsErrAnd r (λ e. e ≡ kind) → kind ≡ OutOfMemory → IsUnlessMemory r x
memory_passed (Ok y) kind x e is = absurd e
memory_passed (Err other) kind x e is = e ∙ is

module _ {S : Type 0} (Passes : S → Type 0) (kind_of : S → ErrorKind) (kind : ErrorKind) where
  -- a step that fails first fails first among more
  fails_among : (steps more : List S) → FailsFirst Passes kind_of steps kind → FailsFirst Passes kind_of (steps ++ more) kind
  fails_among [] more h = absurd h
  fails_among (s ∷ ss) more (inl fails) = inl fails
  fails_among (s ∷ ss) more (inr (passes, later)) = inr (passes, fails_among ss more later)

  pub stops_among : (steps more : List S) → StopsAmong Passes kind_of steps kind → StopsAmong Passes kind_of (steps ++ more) kind
  stops_among steps more (inl memory) = inl memory
  stops_among steps more (inr fails) = inr (fails_among steps more fails)

  -- steps that are passed, in front of the one that fails
  fails_after : (steps more : List S) → AllByRecursion Passes steps → FailsFirst Passes kind_of more kind → FailsFirst Passes kind_of (steps ++ more) kind
  fails_after [] more passed h = h
  fails_after (s ∷ ss) more passed h = inr (passed.0, fails_after ss more passed.1 h)

  pub stops_after : (steps more : List S) → AllByRecursion Passes steps → StopsAmong Passes kind_of more kind → StopsAmong Passes kind_of (steps ++ more) kind
  stops_after steps more passed (inl memory) = inl memory
  stops_after steps more passed (inr fails) = inr (fails_after steps more passed fails)

  -- a step whose refusal says that it isn't passed, unless memory was refused
  pub stops_at : (s : S) → (kind ≡ kind_of s) ⊎ (kind ≡ OutOfMemory) → ((kind ≡ kind_of s) → Passes s → ⊥) → StopsAmong Passes kind_of (s ∷ []) kind
  stops_at s (inl is) fails = inr (inl (fails is, is))
  stops_at s (inr memory) fails = inl memory

  -- a step that isn't passed
  pub stops_first : (s : S) (steps : List S) → (Passes s → ⊥) → kind ≡ kind_of s → StopsAmong Passes kind_of (s ∷ steps) kind
  stops_first s steps fails is = inr (inl (fails, is))

  -- where each step is passed none fails
  pub none_fails : (steps : List S) → AllByRecursion Passes steps → FailsFirst Passes kind_of steps kind → ⊥
  none_fails [] passed h = h
  none_fails (s ∷ ss) passed (inl fails) = fails.0 passed.0
  none_fails (s ∷ ss) passed (inr (passes, later)) = none_fails ss passed.1 later

-- steps of one kind among steps of another
module _ {S T : Type 0} (f : S → T) (Passes : T → Type 0) (kind_of : T → ErrorKind) (kind : ErrorKind) where
  fails_mapped : (steps : List S) → FailsFirst (λ s. Passes (f s)) (λ s. kind_of (f s)) steps kind → FailsFirst Passes kind_of (map f steps) kind
  fails_mapped [] h = h
  fails_mapped (s ∷ ss) (inl fails) = inl fails
  fails_mapped (s ∷ ss) (inr (passes, later)) = inr (passes, fails_mapped ss later)

  pub stops_mapped : (steps : List S) → StopsAmong (λ s. Passes (f s)) (λ s. kind_of (f s)) steps kind → StopsAmong Passes kind_of (map f steps) kind
  stops_mapped steps (inl memory) = inl memory
  stops_mapped steps (inr fails) = inr (fails_mapped steps fails)

pub all_mapped : {S T : Type 0} (f : S → T) (P : T → Type 0) (steps : List S) → AllByRecursion (λ s. P (f s)) steps → AllByRecursion P (map f steps)
all_mapped f P [] h = tt
all_mapped f P (s ∷ ss) h = (h.0, all_mapped f P ss h.1)

pub all_both : {S : Type 0} (P : S → Type 0) (steps more : List S) → AllByRecursion P steps → AllByRecursion P more → AllByRecursion P (steps ++ more)
all_both P [] more h k = k
all_both P (s ∷ ss) more h k = (h.0, all_both P ss more h.1 k)
