-- When an order finds two things equal.
use Rattle.std.proofs.Common.{◌≡◌, ℕ, Bool, ◌&&◌, ◌==◌, refl, Ordering, Less, Equal, Greater, is_eq, nat_cmp, arith}
use Rattle.std.specs.Ordering.{ordering_then}
use Rattle.std.proofs.lemmas.Bool.Decides.{nat_tests}

pub then_equal : (o p : Ordering) → is_eq (ordering_then o p) ≡ (is_eq o && is_eq p)
then_equal Less p = refl
then_equal Equal p = refl
then_equal Greater p = refl

pub nat_equal : (i j : ℕ) → is_eq (nat_cmp j i) ≡ (i == j)
nat_equal i j = grind (arith, nat_tests)
