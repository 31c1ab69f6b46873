-- A recursion on a count of turns, beside a loop that counts up.
use Rattle.std.proofs.Common.{◌≡◌, ℕ, suc, ◌+◌, ◌-◌, ◌<◌, ◌≤◌, ap, ◌∙◌, arith}

pub one_more : {X : Type 0} {x : X} (f : ℕ → X) (n place : ℕ) → place < n → x ≡ f (n - place) → x ≡ f (suc (n - (place + 1)))
one_more f n place below e = let turn : n - place ≡ suc (n - (place + 1)) = omega arith in e ∙ ap f turn

pub no_more : {X : Type 0} {x : X} (f : ℕ → X) (n place : ℕ) → n ≤ place → x ≡ f (n - place) → x ≡ f 0
no_more f n place done e = let none : n - place ≡ 0 = omega arith in e ∙ ap f none

pub deeper : {X : Type 0} (f : ℕ → X) (n : ℕ) → 0 < n → f n ≡ f (suc (n - 1))
deeper f n some = let e : n ≡ suc (n - 1) = omega arith in ap f e
