-- Checks of the parts of an archive, and the place of the first that has no field.
use Rattle.std.proofs.Common.{◌≡◌, ◌<◌, ◌≤◌, ◌+◌, ℕ, Bool, true, false, List, drop, take, get_or, Option, None, Result, Ok, Err, sym, ap, ◌∙◌, length}
use Rattle.std.specs.Prelude.{IsErrAnd}
use Rattle.std.specs.List.{list_all}
use Rattle.std.proofs.lemmas.Bool.{and_from}
use Rattle.std.proofs.lemmas.List.{take_all}
use Rattle.std.proofs.lemmas.List.Folds.{list_all_at, list_all_more}
use Rattle.msi_base.specs.declared.errors.ErrorKind.TheVariants.{InvalidInput}
use Rattle.msi_exchange.specs.declared.errors.Place.{Place}
use Rattle.msi_exchange.specs.Places.{Fault, first_wrong}
use Rattle.msi_exchange.specs.Writing.{Checks}
use Rattle.msi_exchange.proofs.PlaceLemmas.{wrong_ended, wrong_more}

-- an error that a check passed on
pub checks_on : {X : Type 0} (r : Result X Fault) (e : Fault) (holds : Bool) → IsErrAnd r (λ k. k ≡ e) → e.kind ≡ InvalidInput → holds ≡ false → Checks r holds
checks_on (Ok x) e holds is k h = absurd is
checks_on (Err f) e holds is k h = (ap (λ (g : Fault). g.kind) is ∙ k, h)

module _ {X : Type 0} (p : X → Bool) (wrong : ℕ → X → Option Place) (xs : List X) (start i : ℕ)
    (so_far : (list_all p (take i xs) ≡ true) × (first_wrong wrong (start + i) (drop i xs) ≡ first_wrong wrong start xs)) where
  pub checked_more : (n : ℕ) (x : X) → n ≡ start + i → i < length xs → x ≡ get_or xs i x → p x ≡ true → wrong n x ≡ None
      → (list_all p (take (i + 1) xs) ≡ true) × (first_wrong wrong (start + (i + 1)) (drop (i + 1) xs) ≡ first_wrong wrong start xs)
  checked_more n x here within is holds none = (
    list_all_more p xs i x within ∙ and_from (list_all p (take i xs)) (p (get_or xs i x)) so_far.0 (ap p (sym is) ∙ holds),
    wrong_more wrong xs (first_wrong wrong start xs) start i so_far.1 n x here within is none,
  )

  pub not_checked : (x : X) → i < length xs → x ≡ get_or xs i x → p x ≡ false → list_all p xs ≡ false
  not_checked x within is fails = list_all_at p xs i x within (ap p (sym is) ∙ fails)

  pub all_checked : length xs ≤ i → list_all p xs ≡ true
  all_checked past = ap (list_all p) (sym (take_all i xs past)) ∙ so_far.0

  pub none_unchecked : length xs ≤ i → first_wrong wrong start xs ≡ None
  none_unchecked past = wrong_ended wrong xs (first_wrong wrong start xs) start i so_far.1 past
