-- Entries of a kind, as a loop over entries sorts them out.
use Rattle.std.proofs.Common.{◌≡◌, ℕ, ◌+◌, ◌<◌, Bool, true, false, cond, List, [], ◌∷◌, ◌++◌, length, get_or, take, filter, sym, ◌∙◌, ap, refl}
use Rattle.std.specs.List.{list_any}
use Rattle.std.proofs.lemmas.List.{take_more, append-nil}
use Rattle.std.proofs.lemmas.List.Elements.{filter-append}
use Rattle.std.proofs.lemmas.List.Folds.{list_any-append}

module _ (p : ℕ → Bool) (xs : List ℕ) (i x : ℕ) (there : i < length xs) (at : x ≡ get_or xs i 0) where
  -- the first i + 1 entries are the first i, and this one
  next_front : take (i + 1) xs ≡ take i xs ++ x ∷ []
  next_front = take_more xs i 0 there ∙ ap (λ y. take i xs ++ y ∷ []) (sym at)

  next_sorted : filter p (take (i + 1) xs) ≡ filter p (take i xs) ++ filter p (x ∷ [])
  next_sorted = ap (filter p) next_front ∙ filter-append p (take i xs) (x ∷ [])

  -- one that is of the kind is kept
  pub kept_one : (found pushed : List ℕ) → p x ≡ true → found ≡ filter p (take i xs) → pushed ≡ found ++ x ∷ [] → pushed ≡ filter p (take (i + 1) xs)
  kept_one found pushed is f e =
      let one : filter p (x ∷ []) ≡ x ∷ [] = ap (λ b. cond b (x ∷ []) []) is in
      rw (e, f, next_sorted, one) refl

  -- and one that isn't is left out
  pub kept_none : (found : List ℕ) → p x ≡ false → found ≡ filter p (take i xs) → found ≡ filter p (take (i + 1) xs)
  kept_none found isnt f =
      let none : filter p (x ∷ []) ≡ [] = ap (λ b. cond b (x ∷ []) []) isnt in
      f ∙ sym (rw (next_sorted, none) (append-nil (filter p (take i xs))))

  -- none so far, and not this one
  pub none_more : p x ≡ false → list_any p (take i xs) ≡ false → list_any p (take (i + 1) xs) ≡ false
  none_more isnt h = rw (next_front, list_any-append p (take i xs) (x ∷ []), h, isnt) refl
