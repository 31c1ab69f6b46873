-- The members of streams, one stream behind the other.
use Rattle.std.proofs.Common.{◌≡◌, ℕ, zero, suc, ◌+◌, ◌<◌, List, [], ◌∷◌, ◌++◌, length, get_or, take, drop, sym, ◌∙◌, ap, subst, arith, refl}
use Rattle.std.specs.List.{zip, flat_map}
use Rattle.std.proofs.lemmas.List.{append_assoc, append-nil, get_or_append_left, get_or-append-add, length-append}
use Rattle.std.proofs.lemmas.List.Concat.{flat_map-append}
use Rattle.msi_container_tables.specs.Claims.{CanClaim}
use Rattle.msi_container_tables.proofs.chains.ClaimedLemmas.{distinct_front}

zip_none : (ks : List ℕ) → ◌≡◌ {A = List (ℕ × List ℕ)} (zip ks []) []
zip_none [] = refl
zip_none (k ∷ ks) = refl

-- no stream takes nothing
pub flat_map_zip_none : (f : ℕ × List ℕ → List ℕ) (used ks : List ℕ) → used ≡ used ++ flat_map f (zip ks [])
flat_map_zip_none f used ks = sym (ap (λ ps. used ++ flat_map f ps) (zip_none ks) ∙ append-nil used)

-- one more list, beside its entry
zip_push : (ks : List ℕ) (cs : List (List ℕ)) (i : ℕ) (c : List ℕ)
    → length cs ≡ i
    → i < length ks
    → zip ks (cs ++ c ∷ []) ≡ zip ks cs ++ (get_or ks i 0, c) ∷ []
zip_push [] cs i c long l = absurd (omega arith)
zip_push (k ∷ ks) [] zero c long l = ap (λ ps. (k, c) ∷ ps) (zip_none ks)
zip_push (k ∷ ks) [] (suc i) c long l = absurd (omega arith)
zip_push (k ∷ ks) (x ∷ cs) zero c long l = absurd (omega arith)
zip_push (k ∷ ks) (x ∷ cs) (suc i) c long l = ap (λ ps. (k, x) ∷ ps) (zip_push ks cs i c (omega arith) (omega arith))

pub flat_map_zip_push : (f : ℕ × List ℕ → List ℕ) (ks : List ℕ) (cs : List (List ℕ)) (i : ℕ) (c : List ℕ)
    → length cs ≡ i
    → i < length ks
    → flat_map f (zip ks (cs ++ c ∷ [])) ≡ flat_map f (zip ks cs) ++ f (get_or ks i 0, c)
flat_map_zip_push f ks cs i c long l =
    ap (flat_map f) (zip_push ks cs i c long l)
    ∙ flat_map-append f (zip ks cs) ((get_or ks i 0, c) ∷ [])
    ∙ ap (λ ys. flat_map f (zip ks cs) ++ ys) (append-nil (f (get_or ks i 0, c)))

-- the pairs before one, and those behind it
zip_split : (ks : List ℕ) (cs : List (List ℕ)) (i : ℕ)
    → i < length ks
    → i < length cs
    → zip ks cs ≡ zip ks (take i cs) ++ (get_or ks i 0, get_or cs i []) ∷ zip (drop (suc i) ks) (drop (suc i) cs)
zip_split [] cs i l h = absurd (omega arith)
zip_split (k ∷ ks) [] i l h = absurd (omega arith)
zip_split (k ∷ ks) (c ∷ cs) zero l h = refl
zip_split (k ∷ ks) (c ∷ cs) (suc i) l h = ap (λ ps. (k, c) ∷ ps) (zip_split ks cs i (omega arith) (omega arith))

-- what one stream takes can be claimed when what those before it take has been
pub can_claim_next : (f : ℕ × List ℕ → List ℕ) (limit i : ℕ) (used ks : List ℕ) (done cs : List (List ℕ))
    → CanClaim limit used (flat_map f (zip ks cs))
    → done ≡ take i cs
    → i < length ks
    → i < length cs
    → CanClaim limit (used ++ flat_map f (zip ks done)) (f (get_or ks i 0, get_or cs i []))
can_claim_next f limit i used ks done cs can front l h =
    let a = flat_map f (zip ks (take i cs)) in
    let b = f (get_or ks i 0, get_or cs i []) in
    let rest = flat_map f (zip (drop (suc i) ks) (drop (suc i) cs)) in
    let split : flat_map f (zip ks cs) ≡ a ++ (b ++ rest) = ap (flat_map f) (zip_split ks cs i l h) ∙ flat_map-append f (zip ks (take i cs)) _ in
    let whole : used ++ flat_map f (zip ks cs) ≡ ((used ++ a) ++ b) ++ rest =
    ap (λ xs. used ++ xs) split ∙ sym (append_assoc used a (b ++ rest)) ∙ sym (append_assoc (used ++ a) b rest) in
    rw front (record {
      below = λ j g.
          let at : get_or (flat_map f (zip ks cs)) (length a + j) 0 ≡ get_or b j 0 = rw split (get_or-append-add a (b ++ rest) j 0 ∙ get_or_append_left b rest 0 j g) in
          let P : ℕ → Type 0 = λ n. n < limit in
          subst P at (can.below (length a + j) (omega (arith, ap (λ (xs : List ℕ). length xs) split, length-append a (b ++ rest), length-append b rest)));
      distinct = distinct_front ((used ++ a) ++ b) rest (rw whole at can.distinct);
    })
