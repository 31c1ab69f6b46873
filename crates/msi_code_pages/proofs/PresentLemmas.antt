-- Lists of values that may be missing: when each is there.
use Rattle.std.proofs.Common.{◌≡◌, true, false, ◌&&◌, List, [], ◌∷◌, map, Option, Some, None, is_some, option_map, refl, sym, ap, ◌∙◌}
use Rattle.std.specs.Prelude.{unwrap_or, option_and_then}
use Rattle.std.specs.List.{list_all}
use Rattle.std.proofs.lemmas.Bool.{and_parts}
use Rattle.msi_base.specs.Lists.{all_present}
use Rattle.msi_base.proofs.OptionLemmas.{some_there, none_there, map_some}
use Rattle.msi_base.proofs.BoolLemmas.{by_test}

pub all_there : {X Y : Type 0} (f : X → Option Y) (d : Y) (xs : List X) → list_all (λ x. is_some (f x)) xs ≡ true
    → all_present (map f xs) ≡ Some (map (λ x. unwrap_or (f x) d) xs)
all_there f d [] h = refl
all_there f d (x ∷ xs) h =
    let both = and_parts (is_some (f x)) (list_all (λ y. is_some (f y)) xs) h in
    ap (option_and_then (λ y. option_map (λ ys. y ∷ ys) (all_present (map f xs)))) (some_there (f x) d both.0)
    ∙ ap (option_map (λ ys. unwrap_or (f x) d ∷ ys)) (all_there f d xs both.1)

nothing_after : {X Y : Type 0} (o : Option X) (f : X → Option Y) → ((x : X) → f x ≡ None) → option_and_then f o ≡ None
nothing_after None f h = refl
nothing_after (Some x) f h = h x

pub one_missing : {X Y : Type 0} (f : X → Option Y) (xs : List X) → list_all (λ x. is_some (f x)) xs ≡ false
    → all_present (map f xs) ≡ None
one_missing f [] h = cc
one_missing f (x ∷ xs) h = by_test (is_some (f x))
    (λ there.
    let later = one_missing f xs (sym (ap (λ b. b && list_all (λ y. is_some (f y)) xs) there) ∙ h) in
    nothing_after (f x) (λ y. option_map (λ ys. y ∷ ys) (all_present (map f xs))) (λ y. ap (option_map (λ ys. y ∷ ys)) later))
    (λ none. ap (option_and_then (λ y. option_map (λ ys. y ∷ ys) (all_present (map f xs)))) (none_there (f x) none))

-- the first value and the others
pub present_parts : {X : Type 0} (o : Option X) (os : List (Option X)) (xs : List X) → all_present (o ∷ os) ≡ Some xs
    → (y : X) × (ys : List X) × (o ≡ Some y) × (all_present os ≡ Some ys) × (y ∷ ys ≡ xs)
present_parts None os xs h = absurd cc
present_parts (Some y) os xs h =
    let rest = map_some (all_present os) (λ ys. y ∷ ys) xs h in
    (y, rest.0, refl, rest.1, rest.2)
