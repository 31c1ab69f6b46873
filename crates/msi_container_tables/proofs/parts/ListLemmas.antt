-- Lists: of pairs, and by index.
use Rattle.std.proofs.Common.{◌≡◌, ℕ, zero, suc, ◌+◌, ◌-◌, ◌<◌, List, [], ◌∷◌, ◌++◌, length, get_or, map, inl, inr, ◌∙◌, ap, arith}
use Rattle.std.specs.List.{AllZip, range_with_len}
use Rattle.std.proofs.lemmas.Bool.{cases_lt}
use Rattle.msi_container_format.specs.Chains.{AreBelow}
use Rattle.std.proofs.lemmas.List.{length-append, get_or_append_left, get_or-append_right}
use Rattle.std.proofs.lemmas.List.FromFn.{length-map-range_with_len, get_or-map-range_with_len, fill_by_all}

-- what holds of two lists pair by pair holds of the pair at an index
pub paired_at : {A B : Type 0} (R : A → B → Type 0) (xs : List A) (ys : List B) (i : ℕ) (d : A) (e : B)
    → AllZip R xs ys
    → i < length xs
    → R (get_or xs i d) (get_or ys i e)
paired_at R [] ys i d e h l = absurd (omega arith)
paired_at R (x ∷ xs) [] i d e h l = absurd h
paired_at R (x ∷ xs) (y ∷ ys) zero d e h l = h.0
paired_at R (x ∷ xs) (y ∷ ys) (suc i) d e h l = paired_at R xs ys i d e h.1 (omega arith)

-- what is below a limit with its list is so where it stands under another name
pub below_at : (n : ℕ) (xs : List ℕ) (i x : ℕ) → AreBelow n xs → i < length xs → x ≡ get_or xs i 0 → x < n
below_at n xs i x below l at = omega (arith, below i l, at)

-- a list by index in two parts
pub from_fn_append : {X : Type 0} (f g : ℕ → X) (a b n : ℕ)
    → a + b ≡ n
    → ((j : ℕ) → j < b → g j ≡ f (a + j))
    → map f (range_with_len 0 a) ++ map g (range_with_len 0 b) ≡ map f (range_with_len 0 n)
from_fn_append f g a b n sum same =
    let xs = map f (range_with_len 0 a) in
    let ys = map g (range_with_len 0 b) in
    let front = length-map-range_with_len f 0 a in
    let back = length-map-range_with_len g 0 b in
    fill_by_all f (xs ++ ys) n (f 0) (omega (arith, length-append xs ys)) (λ k l. elim (cases_lt k a) [
      | inl h ↦ get_or_append_left xs ys (f 0) k (omega arith) ∙ get_or-map-range_with_len f 0 a k k (f 0) h (omega arith)
      | inr h ↦
          let at : a + (k - a) ≡ k = omega arith in
          get_or-append_right xs ys a k (f 0) front h
          ∙ get_or-map-range_with_len g 0 b (k - a) (k - a) (f 0) (omega arith) (omega arith)
          ∙ same (k - a) (omega arith)
          ∙ ap f at
    ])
