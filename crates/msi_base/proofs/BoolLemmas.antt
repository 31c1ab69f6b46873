-- Truth values: the cases of a test, and what two of them joined say of each.
use Rattle.std.proofs.Common.{◌≡◌, Bool, true, false, not, cond, ◌&&◌, ◌||◌, refl, sym, T}

-- the cases of a test, with what it answered
pub by_test : {P : Type 0} (b : Bool) → (b ≡ true → P) → (b ≡ false → P) → P
by_test true f g = f refl
by_test false f g = g refl

pub yes_is_no : {P : Type 0} (b : Bool) → b ≡ true → b ≡ false → P
yes_is_no b t f = cc

-- two tests that pass together are one
pub same_truth : (a b : Bool) → (a ≡ true → b ≡ true) → (b ≡ true → a ≡ true) → a ≡ b
same_truth true b f g = sym (f refl)
same_truth false true f g = g refl
same_truth false false f g = refl

pub not_not : (b : Bool) → b ≡ not (not b)
not_not true = refl
not_not false = refl

-- a test beside one that fails
pub or_first : (a b : Bool) → b ≡ false → (a || b) ≡ a
or_first true b e = refl
or_first false b e = e

pub or_second : (a b : Bool) → a ≡ false → (a || b) ≡ b
or_second a b e = rw e

-- two tests in turn, written as one
pub first_or_second : (a b : Bool) → cond b true a ≡ (a || (b || false))
first_or_second true true = refl
first_or_second true false = refl
first_or_second false true = refl
first_or_second false false = refl

-- the later of two choices by one test is what counts
pub cond_twice : {X : Type 0} (b : Bool) (v w x : X) → cond b w (cond b v x) ≡ cond b w x
cond_twice true v w x = refl
cond_twice false v w x = refl

pub cond_not : {X : Type 0} (b : Bool) (x y : X) → cond (not b) x y ≡ cond b y x
cond_not true x y = refl
cond_not false x y = refl

-- where both hold, each does
pub T_parts : (a b : Bool) → T (a && b) → T a × T b
T_parts true b h = (tt, h)
T_parts false b h = absurd h

pub T_second : (a b : Bool) → T (a && b) → T b
T_second true b h = h
T_second false b h = absurd h
