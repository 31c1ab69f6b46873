-- How writing fails: the kind of its error, and whether the device failed.
use Rattle.std.proofs.Common.{◌≡◌, ◌∙◌, Bool, true, false, ◌||◌, Result, Ok, Err, ap, subst, sym, refl}
use Rattle.std.specs.Prelude.{IfErr, IsErrAnd, IsErrOf, IsOk, IsTrue, is_err, ◌↔◌}
use Rattle.std.proofs.lemmas.Bool.{false≢true}
use Rattle.msi_base.specs.declared.errors.ErrorKind.{ErrorKind}
use Rattle.msi_base.specs.declared.errors.ErrorKind.TheVariants.{InvalidInput, Io, OutOfMemory}
use Rattle.msi_container_device.specs.Faults.{is_io}

module _ {X : Type 0} where
  -- what holds of the kind that is passed on holds of the error
  pub err_passed : (Q : ErrorKind → Type 0) (r : Result X ErrorKind) (kind : ErrorKind) → IsErrAnd r (λ e. e ≡ kind) → Q kind → IfErr r Q
  err_passed Q (Ok x) kind d q = tt
  err_passed Q (Err e) kind d q = subst Q (sym d) q

  pub err_is : (r : Result X ErrorKind) (kind : ErrorKind) → IsErrAnd r (λ e. e ≡ kind) → r ≡ Err kind
  err_is (Ok x) kind d = absurd d
  err_is (Err e) kind d = ap Err d

  -- contents that are refused
  pub input_passed : {Y : Type 0} (r : Result X ErrorKind) (kind : ErrorKind) → IsErrAnd r (λ e. e ≡ kind) → ◌≡◌ {A = Result Y ErrorKind} (Err kind) (Err InvalidInput) → IsErrAnd r (λ e. e ≡ InvalidInput)
  input_passed (Ok x) kind d k = d
  input_passed (Err e) kind d k = let same : kind ≡ InvalidInput = cc in d ∙ same

  -- an error of one kind is none of another
  pub other_kind : (r : Result X ErrorKind) (kind other : ErrorKind) → IsErrAnd r (λ e. e ≡ kind) → (kind ≡ other → ⊥) → IsErrOf r other → ⊥
  other_kind (Ok x) kind other d n h = d
  other_kind (Err e) kind other d n h = let same : e ≡ other = cc in n (sym d ∙ same)

  pub not_io : (r : Result X ErrorKind) (kind : ErrorKind) → IsErrAnd r (λ e. e ≡ kind) → is_io {T = X} (Err kind) ≡ false → is_io r ≡ false
  not_io (Ok x) kind d k = refl
  not_io (Err e) kind d k = ap (λ e. is_io {T = X} (Err e)) d ∙ k

  -- where the error is none of the device, and its flag is clear
  pub unfailed : (r : Result X ErrorKind) (kind : ErrorKind) (failed : Bool) → IsErrAnd r (λ e. e ≡ kind) → (kind ≡ Io → ⊥) → failed ≡ false → IsErrOf r Io ↔ IsTrue failed
  unfailed r kind failed d n f = (λ h. absurd (other_kind r kind Io d n h), λ h. absurd (false≢true (sym f ∙ h)))

  -- where all errors are the device's, its flag tells whether there is one
  pub failed_by_io : (r : Result X ErrorKind) (was failed : Bool) → was ≡ false → failed ≡ (was || is_err r) → IfErr r (λ kind. kind ≡ Io) → IsErrOf r Io ↔ IsTrue failed
  failed_by_io (Ok x) was failed w f k = let clear : failed ≡ false = f ∙ ap (λ b. b || false) w in (λ h. absurd cc, λ h. absurd (false≢true (sym clear ∙ h)))
  failed_by_io (Err e) was failed w f k = (λ _. f ∙ ap (λ b. b || true) w, λ _. ap Err k)

  pub io_only : (r : Result X ErrorKind) (other : ErrorKind) → IfErr r (λ kind. kind ≡ Io) → (Io ≡ other → ⊥) → IsErrOf r other → ⊥
  io_only (Ok x) other k n h = cc
  io_only (Err e) other k n h = let same : e ≡ other = cc in n (sym k ∙ same)

  pub ok_not_io : (r : Result X ErrorKind) → IsOk r → is_io r ≡ false
  ok_not_io (Ok x) h = refl
  ok_not_io (Err e) h = absurd (false≢true h)

pub input_isnt_io : InvalidInput ≡ Io → ⊥
input_isnt_io e = cc

pub memory_isnt_io : OutOfMemory ≡ Io → ⊥
memory_isnt_io e = cc

pub memory_isnt_input : OutOfMemory ≡ InvalidInput → ⊥
memory_isnt_input e = cc

pub io_isnt_input : Io ≡ InvalidInput → ⊥
io_isnt_input e = cc

-- a call without an error leaves the flag as it was
pub still_so : (new old first : Bool) → new ≡ (old || false) → old ≡ first → new ≡ first
still_so new true first e f = e ∙ f
still_so new false first e f = e ∙ f
