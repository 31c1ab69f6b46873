-- What an answer says of the refusals before it.
use Rattle.std.proofs.Common.{◌≡◌, Bool, true, false, not, List, [], ◌∷◌, ◌++◌, map, Option, Some, None, Result, Ok, Err, refl, ap, ◌∙◌, inl, inr}
use Rattle.std.specs.Prelude.{if◌then◌else◌}
use Rattle.std.specs.List.{list_all, AllByRecursion}
use Rattle.std.proofs.lemmas.Bool.{not-false}
use Rattle.msi_base.specs.declared.errors.ErrorKind.{ErrorKind}
use Rattle.msi_base.specs.Refusals.{Refusals, IsRefusal, first_refusal, unless, unless_refused, or_refused, ◌>>=◌}

-- what follows from an answer behind a step
pub bind_ok : {A B P : Type 0} (r : Result A ErrorKind) (f : A → Result B ErrorKind) (y : B) → (r >>= f) ≡ Ok y → ((x : A) → r ≡ Ok x → f x ≡ Ok y → P) → P
bind_ok (Ok x) f y e k = k x refl e
bind_ok (Err kind) f y e k = cc

pub same_Ok : {A : Type 0} (x y : A) → ◌≡◌ {A = Result A ErrorKind} (Ok x) (Ok y) → x ≡ y
same_Ok x y e = cc

unless_ok : {A : Type 0} (o : Option ErrorKind) (x y : A) → unless o x ≡ Ok y → (o ≡ None) × (x ≡ y)
unless_ok None x y e = (refl, same_Ok x y e)
unless_ok (Some kind) x y e = cc

-- an answer was not refused
pub not_refused : {A : Type 0} (rs : Refusals) (x y : A) → unless_refused rs x ≡ Ok y → (first_refusal rs ≡ None) × (x ≡ y)
not_refused rs x y e = unless_ok (first_refusal rs) x y e

pub value_there : {A : Type 0} (kind : ErrorKind) (o : Option A) (y : A) → or_refused kind o ≡ Ok y → o ≡ Some y
value_there kind None y e = cc
value_there kind (Some x) y e = ap Some (same_Ok x y e)

-- the first refusal doesn't hold, nor do those behind it
pub first_fails : (b : Bool) (kind : ErrorKind) (rs : Refusals) → first_refusal ((b, kind) ∷ rs) ≡ None → (b ≡ false) × (first_refusal rs ≡ None)
first_fails true kind rs e = cc
first_fails false kind rs e = (refl, e)

pub front_fails : (rs ss : Refusals) → first_refusal (rs ++ ss) ≡ None → (first_refusal rs ≡ None) × (first_refusal ss ≡ None)
front_fails [] ss e = (refl, e)
front_fails (r ∷ rs) ss e =
    let head = first_fails r.0 r.1 (rs ++ ss) e in
    let rest = front_fails rs ss head.1 in
    (rw head.0 rest.0, rest.1)

-- so each item passes a test that each is refused for failing
pub each_passes : {X : Type 0} (p : X → Bool) (kind : ErrorKind) (xs : List X) → first_refusal (map (λ x. (not (p x), kind)) xs) ≡ None → list_all p xs ≡ true
each_passes p kind [] e = refl
each_passes p kind (x ∷ xs) e =
    let head = first_fails (not (p x)) kind (map (λ x. (not (p x), kind)) xs) e in
    rw (not-false (p x) head.0) (each_passes p kind xs head.1)

-- no refusal holds
pub none_holds : (rs : Refusals) → first_refusal rs ≡ None → AllByRecursion (λ r. r.0 ≡ false) rs
none_holds [] e = tt
none_holds (r ∷ rs) e = let head = first_fails r.0 r.1 rs e in (head.0, none_holds rs head.1)

-- refusals behind others: where none of those holds, these are looked at, and else the first of those decides
pub behind_passed : (rs ss : Refusals) → first_refusal rs ≡ None → first_refusal (rs ++ ss) ≡ first_refusal ss
behind_passed [] ss e = refl
behind_passed (r ∷ rs) ss e = let head = first_fails r.0 r.1 rs e in rw head.0 (behind_passed rs ss head.1)

holds_at : (b : Bool) (l k : ErrorKind) (o p : Option ErrorKind) → (o ≡ Some k → p ≡ Some k) → (if b then Some l else o) ≡ Some k → (if b then Some l else p) ≡ Some k
holds_at true l k o p h e = e
holds_at false l k o p h e = h e

pub front_holds : (rs ss : Refusals) (k : ErrorKind) → first_refusal rs ≡ Some k → first_refusal (rs ++ ss) ≡ Some k
front_holds [] ss k e = cc
front_holds (r ∷ rs) ss k e = holds_at r.0 r.1 k (first_refusal rs) (first_refusal (rs ++ ss)) (front_holds rs ss k) e

-- the same with others in place of those behind
pub tail_holds : (rs ss ts : Refusals) (k : ErrorKind) → (first_refusal ss ≡ Some k → first_refusal ts ≡ Some k) → first_refusal (rs ++ ss) ≡ Some k → first_refusal (rs ++ ts) ≡ Some k
tail_holds [] ss ts k h e = h e
tail_holds (r ∷ rs) ss ts k h e = holds_at r.0 r.1 k (first_refusal (rs ++ ss)) (first_refusal (rs ++ ts)) (tail_holds rs ss ts k h) e

pub unless_err : {A : Type 0} (o : Option ErrorKind) (x : A) (k : ErrorKind) → unless o x ≡ Err k → o ≡ Some k
unless_err None x k e = cc
unless_err (Some l) x k e = cc

pub refused_first : {A : Type 0} (rs : Refusals) (x : A) (k : ErrorKind) → unless_refused rs x ≡ Err k → first_refusal rs ≡ Some k
refused_first rs x k e = unless_err (first_refusal rs) x k e

pub first_refused : {A : Type 0} (rs : Refusals) (x : A) (k : ErrorKind) → first_refusal rs ≡ Some k → unless_refused rs x ≡ Err k
first_refused rs x k e = rw e refl

-- a refusal among some that stand behind others that don't hold, and before more
pub refused_between : {A : Type 0} (rs ss ts : Refusals) (x : A) (k : ErrorKind) → first_refusal rs ≡ None → IsRefusal (unless_refused ss x) k → IsRefusal (unless_refused ((rs ++ ss) ++ ts) x) k
refused_between rs ss ts x k passed (inl m) = inl m
refused_between rs ss ts x k passed (inr e) =
    inr (first_refused ((rs ++ ss) ++ ts) x k (front_holds (rs ++ ss) ts k (behind_passed rs ss passed ∙ refused_first ss x k e)))
