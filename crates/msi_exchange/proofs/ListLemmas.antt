-- Lists that are read element by element.
use Rattle.std.proofs.Common.{◌≡◌, ◌≢◌, ◌<◌, ◌≤◌, ◌+◌, ℕ, suc, List, [], ◌∷◌, ◌++◌, drop, get_or, map, Option, Some, None, refl, sym, ap, subst, ◌∙◌, length, arith}
use Rattle.std.proofs.lemmas.List.{append-nil, append_assoc, drop_all, drop_more}
use Rattle.msi_base.specs.declared.errors.ErrorKind.{ErrorKind}
use Rattle.msi_base.specs.declared.errors.ErrorKind.TheVariants as kind
use Rattle.msi_base.specs.Results.{◌>>=◌, FailsAs}
use Rattle.msi_base.proofs.OptionLemmas.{bind_some}
use Rattle.msi_exchange.specs.Lists.{each, each_pair}

-- ---- one list

pub each_more : {X Y : Type 0} (f : X → Option Y) (x : X) (xs : List X) (y : Y) (ys : List Y) → f x ≡ Some y → each f xs ≡ Some ys → each f (x ∷ xs) ≡ Some (y ∷ ys)
each_more f x xs y ys e r = ap (λ o. o >>= λ y. each f xs >>= λ ys. Some (y ∷ ys)) e ∙ ap (λ o. o >>= λ ys. Some (y ∷ ys)) r

-- what the first element and the others gave
pub each_first : {X Y : Type 0} (f : X → Option Y) (x : X) (xs : List X) (all : List Y) → each f (x ∷ xs) ≡ Some all → (y : Y) × (ys : List Y) × (f x ≡ Some y) × (each f xs ≡ Some ys) × (y ∷ ys ≡ all)
each_first f x xs all e =
    let (y, is, r) = bind_some (f x) (λ y. each f xs >>= λ ys. Some (y ∷ ys)) all e in
    let (ys, are, s) = bind_some (each f xs) (λ ys. Some (y ∷ ys)) all r in
    (y, ys, is, are, cc)

-- what was read before, and what is still read
abbrev pub with_front : {Y : Type 0} → List Y → Option (List Y) → Option (List Y)
with_front front read = read >>= λ ys. Some (front ++ ys)

-- ---- two lists

pub each_pair_more : {X Y Z : Type 0} (f : X → Y → Option Z) (x : X) (xs : List X) (y : Y) (ys : List Y) (z : Z) (zs : List Z) → f x y ≡ Some z → each_pair f xs ys ≡ Some zs → each_pair f (x ∷ xs) (y ∷ ys) ≡ Some (z ∷ zs)
each_pair_more f x xs y ys z zs e r = ap (λ o. o >>= λ z. each_pair f xs ys >>= λ zs. Some (z ∷ zs)) e ∙ ap (λ o. o >>= λ zs. Some (z ∷ zs)) r

pub each_pair_first : {X Y Z : Type 0} (f : X → Y → Option Z) (x : X) (xs : List X) (y : Y) (ys : List Y) (all : List Z) → each_pair f (x ∷ xs) (y ∷ ys) ≡ Some all → (z : Z) × (zs : List Z) × (f x y ≡ Some z) × (each_pair f xs ys ≡ Some zs) × (z ∷ zs ≡ all)
each_pair_first f x xs y ys all e =
    let (z, is, r) = bind_some (f x y) (λ z. each_pair f xs ys >>= λ zs. Some (z ∷ zs)) all e in
    let (zs, are, s) = bind_some (each_pair f xs ys) (λ zs. Some (z ∷ zs)) all r in
    (z, zs, is, are, cc)

-- lists that aren't as long as one another mean nothing
pub each_pair_uneven : {X Y Z : Type 0} (f : X → Y → Option Z) (xs : List X) (ys : List Y) → length xs ≢ length ys → each_pair f xs ys ≡ None
each_pair_uneven f [] [] h = absurd (h refl)
each_pair_uneven f [] (y ∷ ys) h = refl
each_pair_uneven f (x ∷ xs) [] h = refl
each_pair_uneven f (x ∷ xs) (y ∷ ys) h = none_behind (f x y) (each_pair f xs ys) (each_pair_uneven f xs ys (λ e. h (ap suc e)))
  where
    none_behind : {X : Type 0} (o : Option X) (r : Option (List X)) → r ≡ None → (o >>= λ z. r >>= λ zs. Some (z ∷ zs)) ≡ None
    none_behind None r e = refl
    none_behind (Some z) r e = ap (λ o. o >>= λ zs. Some (z ∷ zs)) e

-- ---- refusals

pub refused : {Y : Type 0} (e : ErrorKind) (read : Option Y) → e ≡ kind.InvalidData → read ≡ None → FailsAs e read
refused e read is none = subst (λ k. FailsAs k read) (sym is) none

-- an error stands for another thing that means nothing then
pub fails_too : {X Y : Type 0} (e : ErrorKind) (read : Option X) (whole : Option Y) → (read ≡ None → whole ≡ None) → FailsAs e read → FailsAs e whole
fails_too kind.InvalidData read whole h fails = h fails
fails_too kind.OutOfMemory read whole h fails = tt
fails_too e read whole h fails = absurd fails

-- ---- loops: what was read of the elements in front, before those from i on

pub front_none : {Y : Type 0} (read : Option (List Y)) → with_front [] read ≡ read
front_none None = refl
front_none (Some ys) = refl

front_more : {Y : Type 0} (front : List Y) (o : Option Y) (y : Y) (read : Option (List Y)) → o ≡ Some y
    → with_front front (o >>= λ y. read >>= λ ys. Some (y ∷ ys)) ≡ with_front (front ++ y ∷ []) read
front_more front o y read e = ap (λ o. with_front front (o >>= λ y. read >>= λ ys. Some (y ∷ ys))) e ∙ by read
  where
    by : (read : Option (List _)) → with_front front (read >>= λ ys. Some (y ∷ ys)) ≡ with_front (front ++ y ∷ []) read
    by None = refl
    by (Some ys) = ap Some (sym (append_assoc front (y ∷ []) ys))

front_stopped : {Y : Type 0} (front : List Y) (o : Option Y) (read : Option (List Y)) → o ≡ None
    → with_front front (o >>= λ y. read >>= λ ys. Some (y ∷ ys)) ≡ None
front_stopped front o read e = ap (λ o. with_front front (o >>= λ y. read >>= λ ys. Some (y ∷ ys))) e

module _ {F X Y : Type 0} (view : F → X) (f : X → Option Y) (xs : List F) (whole : Option (List Y)) (front : List Y) (i : ℕ)
    (so_far : with_front front (each f (map view (drop i xs))) ≡ whole) where
  pub loop_more : (d : F) (y : Y) (more : List Y) → i < length xs → f (view (get_or xs i d)) ≡ Some y → more ≡ front ++ y ∷ []
      → with_front more (each f (map view (drop (i + 1) xs))) ≡ whole
  loop_more d y more within e pushed =
      ap (λ ys. with_front ys (each f (map view (drop (i + 1) xs)))) pushed
      ∙ sym (front_more front (f (view (get_or xs i d))) y (each f (map view (drop (i + 1) xs))) e)
      ∙ ap (λ zs. with_front front (each f (map view zs))) (sym (drop_more xs i d within))
      ∙ so_far

  pub loop_stopped : (d : F) → i < length xs → f (view (get_or xs i d)) ≡ None → whole ≡ None
  loop_stopped d within e =
      sym so_far ∙ ap (λ zs. with_front front (each f (map view zs))) (drop_more xs i d within)
      ∙ front_stopped front (f (view (get_or xs i d))) (each f (map view (drop (i + 1) xs))) e

  pub loop_ended : length xs ≤ i → whole ≡ Some front
  loop_ended past = sym so_far ∙ ap (λ zs. with_front front (each f (map view zs))) (drop_all i xs past) ∙ ap Some (append-nil front)

module _ {C F X Y : Type 0} (view : F → X) (f : C → X → Option Y) (cs : List C) (xs : List F) (whole : Option (List Y)) (front : List Y) (i : ℕ)
    (so_far : with_front front (each_pair f (drop i cs) (map view (drop i xs))) ≡ whole) (same : length cs ≡ length xs) where
  abbrev pairs : List C → List F → Option (List Y)
  pairs us vs = with_front front (each_pair f us (map view vs))

  cut : (c : C) (d : F) → i < length cs → c ≡ get_or cs i c → pairs (drop i cs) (drop i xs) ≡ pairs (c ∷ drop (i + 1) cs) (get_or xs i d ∷ drop (i + 1) xs)
  cut c d within is =
      ap (λ us. pairs us (drop i xs)) (drop_more cs i c within ∙ ap (λ u. u ∷ drop (i + 1) cs) (sym is))
      ∙ ap (pairs (c ∷ drop (i + 1) cs)) (drop_more xs i d (omega arith))

  pub pairs_more : (c : C) (d : F) (y : Y) (more : List Y) → i < length cs → c ≡ get_or cs i c → f c (view (get_or xs i d)) ≡ Some y → more ≡ front ++ y ∷ []
      → with_front more (each_pair f (drop (i + 1) cs) (map view (drop (i + 1) xs))) ≡ whole
  pairs_more c d y more within is e pushed =
      ap (λ ys. with_front ys (each_pair f (drop (i + 1) cs) (map view (drop (i + 1) xs)))) pushed
      ∙ sym (front_more front (f c (view (get_or xs i d))) y (each_pair f (drop (i + 1) cs) (map view (drop (i + 1) xs))) e)
      ∙ sym (cut c d within is) ∙ so_far

  pub pairs_stopped : (c : C) (d : F) → i < length cs → c ≡ get_or cs i c → f c (view (get_or xs i d)) ≡ None → whole ≡ None
  pairs_stopped c d within is e =
      sym so_far ∙ cut c d within is
      ∙ front_stopped front (f c (view (get_or xs i d))) (each_pair f (drop (i + 1) cs) (map view (drop (i + 1) xs))) e

  pub pairs_ended : length cs ≤ i → whole ≡ Some front
  pairs_ended past =
      sym so_far ∙ ap (λ us. pairs us (drop i xs)) (drop_all i cs past) ∙ ap (pairs []) (drop_all i xs (omega arith)) ∙ ap Some (append-nil front)

-- the same where the elements of both lists are viewed
module _ {E F C X Y : Type 0} (left : E → C) (view : F → X) (f : C → X → Option Y) (es : List E) (xs : List F) (whole : Option (List Y)) (front : List Y) (i : ℕ)
    (so_far : with_front front (each_pair f (map left (drop i es)) (map view (drop i xs))) ≡ whole) (same : length es ≡ length xs) where
  abbrev both : List E → List F → Option (List Y)
  both us vs = with_front front (each_pair f (map left us) (map view vs))

  cut_both : (c : E) (d : F) → i < length es → both (drop i es) (drop i xs) ≡ both (get_or es i c ∷ drop (i + 1) es) (get_or xs i d ∷ drop (i + 1) xs)
  cut_both c d within =
      ap (λ us. both us (drop i xs)) (drop_more es i c within)
      ∙ ap (both (get_or es i c ∷ drop (i + 1) es)) (drop_more xs i d (omega arith))

  pub both_more : (c : E) (d : F) (y : Y) (more : List Y) → i < length es → f (left (get_or es i c)) (view (get_or xs i d)) ≡ Some y → more ≡ front ++ y ∷ []
      → with_front more (each_pair f (map left (drop (i + 1) es)) (map view (drop (i + 1) xs))) ≡ whole
  both_more c d y more within e pushed =
      ap (λ ys. with_front ys (each_pair f (map left (drop (i + 1) es)) (map view (drop (i + 1) xs)))) pushed
      ∙ sym (front_more front (f (left (get_or es i c)) (view (get_or xs i d))) y (each_pair f (map left (drop (i + 1) es)) (map view (drop (i + 1) xs))) e)
      ∙ sym (cut_both c d within) ∙ so_far

  pub both_stopped : (c : E) (d : F) → i < length es → f (left (get_or es i c)) (view (get_or xs i d)) ≡ None → whole ≡ None
  both_stopped c d within e =
      sym so_far ∙ cut_both c d within
      ∙ front_stopped front (f (left (get_or es i c)) (view (get_or xs i d))) (each_pair f (map left (drop (i + 1) es)) (map view (drop (i + 1) xs))) e

  pub both_ended : length es ≤ i → whole ≡ Some front
  both_ended past =
      sym so_far ∙ ap (λ us. both us (drop i xs)) (drop_all i es past) ∙ ap (both []) (drop_all i xs (omega arith)) ∙ ap Some (append-nil front)
