-- Lists beside what a function gives of them, and functions that agree on a list.
use Rattle.std.proofs.Common.{◌≡◌, ℕ, suc, ◌<◌, Bool, true, cond, List, [], ◌∷◌, ◌++◌, length, get_or, map, filter, ◌∙◌, ap, arith, refl}
use Rattle.std.specs.List.{AllZip, flat_map, zip}

-- a list beside its image is its elements with their images
pub zip_map : {A B : Type 0} (f : A → B) (xs : List A) → zip xs (map f xs) ≡ map (λ x. (x, f x)) xs
zip_map f [] = refl
zip_map f (x ∷ xs) = ap (λ ps. (x, f x) ∷ ps) (zip_map f xs)

-- functions that agree on a list give one list
pub map_same : {B : Type 0} (f g : ℕ → B) (xs : List ℕ) → ((i : ℕ) → i < length xs → f (get_or xs i 0) ≡ g (get_or xs i 0)) → map f xs ≡ map g xs
map_same f g [] same = refl
map_same f g (x ∷ xs) same =
    let here : f x ≡ g x = same 0 (omega arith) in
    ap (λ y. y ∷ map f xs) here ∙ ap (λ ys. g x ∷ ys) (map_same f g xs (λ i l. same (suc i) (omega arith)))

-- and so do functions that give lists
pub flat_map_same : (f g : ℕ → List ℕ) (xs : List ℕ) → ((i : ℕ) → i < length xs → f (get_or xs i 0) ≡ g (get_or xs i 0)) → flat_map f xs ≡ flat_map g xs
flat_map_same f g [] same = refl
flat_map_same f g (x ∷ xs) same =
    let here : f x ≡ g x = same 0 (omega arith) in
    ap (λ ys. ys ++ flat_map f xs) here ∙ ap (λ ys. g x ++ ys) (flat_map_same f g xs (λ i l. same (suc i) (omega arith)))

-- where each element passes, none is left out
pub filter_all : (p : ℕ → Bool) (xs : List ℕ) → ((i : ℕ) → i < length xs → p (get_or xs i 0) ≡ true) → filter p xs ≡ xs
filter_all p [] passes = refl
filter_all p (x ∷ xs) passes =
    let here : p x ≡ true = passes 0 (omega arith) in
    ap (λ b. cond b (x ∷ filter p xs) (filter p xs)) here ∙ ap (λ ys. x ∷ ys) (filter_all p xs (λ i l. passes (suc i) (omega arith)))

-- what holds of each element and its image holds of the list beside its image
pub all_zip_map : (R : ℕ → List ℕ → Type 0) (f : ℕ → List ℕ) (xs : List ℕ) → ((i : ℕ) → i < length xs → R (get_or xs i 0) (f (get_or xs i 0))) → AllZip R xs (map f xs)
all_zip_map R f [] holds = tt
all_zip_map R f (x ∷ xs) holds = (holds 0 (omega arith), all_zip_map R f xs (λ i l. holds (suc i) (omega arith)))
