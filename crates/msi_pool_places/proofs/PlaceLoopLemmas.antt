-- Loops over elements that are asked for one by one, by their number.
use Rattle.std.proofs.Common.{◌≡◌, ℕ, zero, suc, ◌+◌, Bool, true, false, List, [], ◌∷◌, ◌++◌, get_or, take, Some, sym, ap, subst, ◌∙◌, arith}
use Rattle.std.specs.Prelude.{slice_get, ◌↔◌, IsTrue, ◌&&◌}
use Rattle.std.specs.List.{AllByRecursion, list_any}
use Rattle.std.proofs.lemmas.Bool.{and_from, and_parts, or_from}
use Rattle.std.proofs.lemmas.List.{take_more}
use Rattle.std.proofs.lemmas.List.Folds.{list_any_at, list_any_more}
use Rattle.std.proofs.lemmas.Option.{get_or_from_slice_get, none-some, same_Some, slice_get_within}

pub got : {X : Type 0} (xs : List X) (i : ℕ) (x : X) → slice_get xs i ≡ Some x → x ≡ get_or xs i x
got xs i x is = sym (get_or_from_slice_get xs i x x is)

-- the elements up to it, and it
pub taken_more : {X : Type 0} (xs now new : List X) (i : ℕ) (x : X) → slice_get xs i ≡ Some x → now ≡ take i xs → new ≡ now ++ x ∷ [] → new ≡ take (i + 1) xs
taken_more xs now new i x is now_is new_is =
    new_is ∙ ap (λ ys. ys ++ x ∷ []) now_is ∙ ap (λ y. take i xs ++ y ∷ []) (got xs i x is) ∙ sym (take_more xs i x (slice_get_within xs i x is))

-- an element that passes the test
pub one_passes : {X : Type 0} (p : X → Bool) (xs : List X) (i : ℕ) (x : X) → slice_get xs i ≡ Some x → p x ≡ true → list_any p xs ≡ true
one_passes p xs i x is passes = list_any_at p xs i x (slice_get_within xs i x is) (ap p (sym (got xs i x is)) ∙ passes)

-- none before it, and not this one
pub none_more : {X : Type 0} (p : X → Bool) (xs : List X) (i : ℕ) (x : X) → slice_get xs i ≡ Some x → list_any p (take i xs) ≡ false → p x ≡ false → list_any p (take (i + 1) xs) ≡ false
none_more p xs i x is before fails =
    list_any_more p xs i x (slice_get_within xs i x is)
    ∙ or_from (list_any p (take i xs)) (p (get_or xs i x)) before (ap p (sym (got xs i x is)) ∙ fails)

-- all before it, and this one
all_to : {X : Type 0} (P : X → Type 0) (xs : List X) (i : ℕ) (x : X) → slice_get xs i ≡ Some x → AllByRecursion P (take i xs) → P x → AllByRecursion P (take (suc i) xs)
all_to P [] i x is before here = absurd (none-some x is)
all_to P (y ∷ ys) zero x is before here = (subst P (sym (same_Some y x is)) here, tt)
all_to P (y ∷ ys) (suc i) x is before here = (before.0, all_to P ys i x is before.1 here)

all_from : {X : Type 0} (P : X → Type 0) (xs : List X) (i : ℕ) (x : X) → slice_get xs i ≡ Some x → AllByRecursion P (take (suc i) xs) → AllByRecursion P (take i xs) × P x
all_from P [] i x is all = absurd (none-some x is)
all_from P (y ∷ ys) zero x is all = (tt, subst P (same_Some y x is) all.0)
all_from P (y ∷ ys) (suc i) x is all = let parts = all_from P ys i x is all.1 in ((all.0, parts.0), parts.1)

pub all_then : {X : Type 0} (P : X → Type 0) (xs : List X) (i : ℕ) (x : X) → slice_get xs i ≡ Some x → AllByRecursion P (take i xs) → P x → AllByRecursion P (take (i + 1) xs)
all_then P xs i x is before here =
    let next : suc i ≡ i + 1 = omega arith in
    subst (λ n. AllByRecursion P (take n xs)) next (all_to P xs i x is before here)

-- a test of all of them
pub all_more : {X : Type 0} (P : X → Type 0) (a b : Bool) (xs : List X) (i : ℕ) (x : X) → slice_get xs i ≡ Some x → (IsTrue a ↔ AllByRecursion P (take i xs)) → (IsTrue b ↔ P x)
    → (IsTrue (a && b) ↔ AllByRecursion P (take (i + 1) xs))
all_more P a b xs i x is before here =
    let next : suc i ≡ i + 1 = omega arith in
    subst (λ n. IsTrue (a && b) ↔ AllByRecursion P (take n xs)) next (
      λ both. let parts = and_parts a b both in all_to P xs i x is (before.0 parts.0) (here.0 parts.1),
      λ all. let parts = all_from P xs i x is all in and_from a b (before.1 parts.0) (here.1 parts.1),
    )
