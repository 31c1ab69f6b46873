-- An error that is passed on keeps its kind.
use Rattle.std.proofs.Common.{◌≡◌, ◌∙◌, ap, Result, Ok, Err, ◌⊎◌, inl, inr}
use Rattle.std.specs.Prelude.{IsErrAnd}
use Rattle.msi_base.specs.declared.errors.ErrorKind.{ErrorKind}
use Rattle.msi_base.specs.declared.errors.ErrorKind.TheVariants.{InvalidData, NotFound, OutOfMemory}
use Rattle.msi_container_tables.specs.Outcomes.{ViewIsUnlessMemory, FailsByData, FailsByPath, IsNotFound}

-- it is for the bytes or for memory, as it was
pub kind_passed : {X : Type 0} (r : Result X ErrorKind) (kind : ErrorKind) → IsErrAnd r (λ e. e ≡ kind) → (kind ≡ InvalidData) ⊎ (kind ≡ OutOfMemory) → FailsByData r
kind_passed (Ok x) kind d k = absurd d
kind_passed (Err e) kind d (inl k) = inl (d ∙ k)
kind_passed (Err e) kind d (inr k) = inr (d ∙ k)

pub kind_passed_along : {X : Type 0} (missing : Type 0) (r : Result X ErrorKind) (kind : ErrorKind) → IsErrAnd r (λ e. e ≡ kind) → (kind ≡ InvalidData) ⊎ (kind ≡ OutOfMemory) → FailsByPath missing r
kind_passed_along missing (Ok x) kind d k = absurd d
kind_passed_along missing (Err e) kind d (inl k) = inl (d ∙ k)
kind_passed_along missing (Err e) kind d (inr k) = inr (inl (d ∙ k))

-- or as not found where something else is missing, if that follows
pub missing_passed : {X : Type 0} (missing other : Type 0) (r : Result X ErrorKind) (kind : ErrorKind) → IsErrAnd r (λ e. e ≡ kind) → (missing → other) → (kind ≡ InvalidData) ⊎ (kind ≡ OutOfMemory) ⊎ ((kind ≡ NotFound) × missing) → FailsByPath other r
missing_passed missing other (Ok x) kind d f k = absurd d
missing_passed missing other (Err e) kind d f (inl k) = inl (d ∙ k)
missing_passed missing other (Err e) kind d f (inr (inl k)) = inr (inl (d ∙ k))
missing_passed missing other (Err e) kind d f (inr (inr (k, m))) = inr (inr (d ∙ k, f m))

-- what isn't found is so where it is passed on
pub not_found_passed : {X : Type 0} (r : Result X ErrorKind) (kind : ErrorKind) → IsErrAnd r (λ e. e ≡ kind) → (kind ≡ NotFound) ⊎ (kind ≡ OutOfMemory) → IsNotFound r
not_found_passed (Ok x) kind d k = absurd d
not_found_passed (Err e) kind d (inl k) = inl (d ∙ k)
not_found_passed (Err e) kind d (inr k) = inr (d ∙ k)

-- refused memory is allowed at any view
pub memory_viewed : {X Y : Type 0} (view : X → Y) (r : Result X ErrorKind) (y : Y) (kind : ErrorKind) → IsErrAnd r (λ e. e ≡ kind) → kind ≡ OutOfMemory → ViewIsUnlessMemory view r y
memory_viewed view (Ok x) y kind d k = absurd d
memory_viewed view (Err e) y kind d k = d ∙ k

-- less of what is viewed
pub view_weaker : {X Y Z : Type 0} (f : Y → Z) (view : X → Y) (r : Result X ErrorKind) (y : Y) → ViewIsUnlessMemory view r y → ViewIsUnlessMemory (λ x. f (view x)) r (f y)
view_weaker f view (Ok x) y h = ap f h
view_weaker f view (Err e) y h = h

-- so it is, said of the result itself
pub refused_memory : {X : Type 0} (r : Result X ErrorKind) (kind : ErrorKind) → IsErrAnd r (λ e. e ≡ kind) → kind ≡ OutOfMemory → r ≡ Err OutOfMemory
refused_memory (Ok x) kind d k = absurd d
refused_memory (Err e) kind d k = ap Err (d ∙ k)

-- and refused memory isn't invalid data
pub memory_is_valid : {X : Type 0} (r : Result X ErrorKind) (kind : ErrorKind) → IsErrAnd r (λ e. e ≡ kind) → kind ≡ OutOfMemory → r ≡ Err InvalidData → ⊥
memory_is_valid (Ok x) kind d k b = absurd d
memory_is_valid (Err e) kind d k b = cc

-- the kind of an error, by the result that it is in
pub kind_of : {X : Type 0} (kind other : ErrorKind) → ◌≡◌ {A = Result X ErrorKind} (Err kind) (Err other) → kind ≡ other
kind_of kind other h = cc
