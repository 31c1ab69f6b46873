-- Values that may be missing: when there is one, and what mapping it gives.
use Rattle.std.proofs.Common.{◌≡◌, true, false, Option, Some, None, is_some, unwrap_or, refl, cond, Bool, inl, inr}
use Rattle.std.specs.Prelude.{IsSome, IsSomeAnd, option_map, ◌⊎◌}
use Rattle.msi_base.specs.Results.{◌>>=◌}

pub none_is : {X : Type 0} {x : X} {P : Type 0} → None ≡ Some x → P
none_is e = cc

pub none_there : {X : Type 0} (o : Option X) → is_some o ≡ false → o ≡ None
none_there None e = refl
none_there (Some x) e = cc

pub none_not : {X : Type 0} (o : Option X) → o ≡ None → IsSome o → ⊥
none_not None e h = absurd cc
none_not (Some x) e h = absurd cc

pub some_there : {X : Type 0} (o : Option X) (d : X) → is_some o ≡ true → o ≡ Some (unwrap_or o d)
some_there None d there = cc
some_there (Some x) d there = refl

pub is_some_by : {X : Type 0} (o : Option X) (x : X) → o ≡ Some x → IsSome o
is_some_by None x e = absurd cc
is_some_by (Some y) x e = refl

pub some_of : {X : Type 0} (P : X → Type 0) (o : Option X) → IsSomeAnd o P → IsSome o
some_of P None h = absurd h
some_of P (Some x) h = refl

pub mapped_twice : {A B C : Type 0} (f : A → B) (g : B → C) (o : Option A) → option_map (λ x. g (f x)) o ≡ option_map g (option_map f o)
mapped_twice f g None = refl
mapped_twice f g (Some x) = refl

-- the value of a step that gave something
pub bind_some : {A B : Type 0} (r : Option A) (f : A → Option B) (y : B) → (r >>= f) ≡ Some y → (x : A) × (r ≡ Some x) × (f x ≡ Some y)
bind_some (Some x) f y e = (x, refl, e)
bind_some None f y e = absurd cc

pub map_some : {A B : Type 0} (r : Option A) (f : A → B) (y : B) → option_map f r ≡ Some y → (x : A) × (r ≡ Some x) × (f x ≡ y)
map_some (Some x) f y e = (x, refl, cc)
map_some None f y e = absurd cc

-- a test that was passed, at its true and at its false side
pub guard_passed : {A : Type 0} (b : Bool) (x : Option A) (y : A) → cond b None x ≡ Some y → (b ≡ false) × (x ≡ Some y)
guard_passed true x y e = absurd cc
guard_passed false x y e = (refl, e)

pub guard_held : {A : Type 0} (b : Bool) (x : Option A) (y : A) → cond b x None ≡ Some y → (b ≡ true) × (x ≡ Some y)
guard_held true x y e = (refl, e)
guard_held false x y e = absurd cc

pub branch : {A : Type 0} (b : Bool) (x z : Option A) (y : A) → cond b x z ≡ Some y → ((b ≡ true) × (x ≡ Some y)) ⊎ ((b ≡ false) × (z ≡ Some y))
branch true x z y e = inl (refl, e)
branch false x z y e = inr (refl, e)

abbrev pub given : {A : Type 0} → A → Option A
given x = Some x

pub some_is : {A : Type 0} (x y : A) → given x ≡ given y → x ≡ y
some_is x y e = cc

pub not_given : {A : Type 0} (x : A) → given x ≡ None → ⊥
not_given x e = cc
