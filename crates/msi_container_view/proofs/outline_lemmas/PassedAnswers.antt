-- What a look answers where a look that it makes refused.
use Rattle.std.proofs.Common.{◌≡◌, Bool, List, ℕ, Option, Result, Ok, Err, ◌∙◌, sym, subst}
use Rattle.std.specs.Prelude.{IsErrAnd}
use Rattle.msi_base.specs.declared.errors.ErrorKind.{ErrorKind}
use Rattle.msi_base.specs.declared.errors.ErrorKind.TheVariants.{AlreadyExists, InvalidData, InvalidInput, NotFound, Io, OutOfMemory}
use Rattle.msi_container_tables.proofs.parts.PassedLemmas.{kind_of}
use Rattle.msi_container_device.specs.Held.{Held, bytes_told}
use Rattle.msi_container_view.specs.Reading.{Tells, Answers}

module _ {X : Type 0} (can_fail : Bool) (held now : Option Held) (Found : List ℕ → X → Type 0) (Broken Worse : List ℕ → Type 0) where
  at_kind : (e kind : ErrorKind) → e ≡ kind → bytes_told now ≡ bytes_told held → Answers can_fail now Found Broken (Err kind)
      → ((file : List ℕ) → Tells held file → Broken file → Worse file) → Answers can_fail held Found Worse (Err e)
  at_kind e InvalidData same told a worse = rw same (λ file t. worse file t (a file (told ∙ t)))
  at_kind e AlreadyExists same told a worse = rw same a
  at_kind e InvalidInput same told a worse = rw same a
  at_kind e NotFound same told a worse = rw same a
  at_kind e Io same told a worse = rw same a
  at_kind e OutOfMemory same told a worse = rw same a

  -- bytes that are broken for the one are so for the other, and each other refusal is the same
  pub answer_passed : (r : Result X ErrorKind) (kind : ErrorKind) → IsErrAnd r (λ e. e ≡ kind) → bytes_told now ≡ bytes_told held → Answers can_fail now Found Broken (Err kind)
      → ((file : List ℕ) → Tells held file → Broken file → Worse file) → Answers can_fail held Found Worse r
  answer_passed (Ok x) kind d told a worse = absurd d
  answer_passed (Err e) kind d told a worse = at_kind e kind d told a worse

-- bytes for which it refused are broken
pub broken_for : {X : Type 0} (can_fail : Bool) (held now : Option Held) (Broken : List ℕ → Type 0) (r : Result X ErrorKind) (kind : ErrorKind) → IsErrAnd r (λ e. e ≡ kind) → bytes_told now ≡ bytes_told held
    → Answers {X = Unit {0}} can_fail now (λ file x. Unit {0}) Broken (Err kind) → r ≡ Err InvalidData → (file : List ℕ) → Tells held file → Broken file
broken_for can_fail held now Broken (Ok x) kind d told a is file t = absurd d
broken_for can_fail held now Broken (Err e) kind d told a is file t =
    let Refused : ErrorKind → Type 0 = λ k. Answers {X = Unit {0}} can_fail now (λ file x. Unit {0}) Broken (Err k) in
    subst Refused (sym d ∙ kind_of e InvalidData is) a file (told ∙ t)
