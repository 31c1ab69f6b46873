-- What is read of the bytes is read of the reader, unless it fails.
use Rattle.std.proofs.Common.{◌≡◌, ℕ, List, Option, Some, None, sym, subst, inl}
use Rattle.std.specs.Prelude.{Result, Ok, Err, IfSome}
use Rattle.msi_base.specs.declared.errors.ErrorKind.{ErrorKind}
use Rattle.msi_pool_places.specs.Pool.{PoolStream, IsPoolStream}
use Rattle.msi_base.specs.Results.{IsUnlessFault, IsUnlessMemory}

fault_or_memory : {X : Type 0} (r : Result X ErrorKind) (x : X) → IsUnlessMemory r x → IsUnlessFault r x
fault_or_memory (Ok y) x is = is
fault_or_memory (Err kind) x memory = inl memory

pub stream_of_reader : (known : Option (List ℕ)) (all : List ℕ) (r : Result PoolStream ErrorKind) → IfSome known (λ bytes. all ≡ bytes) → ((stream : PoolStream) → IsPoolStream all stream → IsUnlessMemory r stream)
    → IfSome known (λ bytes. (stream : PoolStream) → IsPoolStream bytes stream → IsUnlessFault r stream)
stream_of_reader None all r e h = tt
stream_of_reader (Some bytes) all r e h = λ stream is. fault_or_memory r stream (h stream (subst (λ (b : List ℕ). IsPoolStream b stream) (sym e) is))
