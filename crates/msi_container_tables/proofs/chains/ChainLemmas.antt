-- Chains by their fronts: what follows the first members, and whether it can be claimed.
use Rattle.std.proofs.Common.{◌≡◌, ℕ, ◌+◌, ◌-◌, ◌<◌, List, [], ◌∷◌, ◌++◌, length, get_or, take, Option, Some, inl, inr, sym, ◌∙◌, ap, arith, refl}
use Rattle.std.proofs.lemmas.List.{get_or-take, length-take-le, take_more, get_or_push, get_or_append_left, get_or-append-add, length_push, length-append}
use Rattle.std.proofs.lemmas.Bool.{cases_eq}
use Rattle.std.proofs.Math.Seq.{take-append-add}
use Rattle.std.proofs.lemmas.Option.{same_Some}
use Rattle.msi_container_format.specs.Chains.{IsChain}
use Rattle.msi_container_tables.specs.Claims.{CanClaim, IsFree}
use Rattle.msi_container_tables.specs.Walks.{follower}
use Rattle.msi_container_tables.proofs.chains.ClaimLemmas.{push_cases}

-- no members yet: the start comes next
pub follower_nil : (next : ℕ → Option ℕ) (start : ℕ) (xs : List ℕ) → length xs ≡ 0 → follower next start xs ≡ Some start
follower_nil next start [] e = refl
follower_nil next start (x ∷ xs) e = absurd (omega arith)

-- some members: the last one's successor comes next
pub follower_more : (next : ℕ → Option ℕ) (start : ℕ) (xs : List ℕ)
    → 0 < length xs
    → follower next start xs ≡ next (get_or xs (length xs - 1) 0)
follower_more next start [] h = absurd (omega arith)
follower_more next start (x ∷ xs) h = refl

-- a chain that is one member longer
pub chain_push : (next : ℕ → Option ℕ) (start i s : ℕ) (xs : List ℕ)
    → IsChain next start i xs
    → follower next start xs ≡ Some s
    → IsChain next start (i + 1) (xs ++ s ∷ [])
chain_push next start i s xs h f = record {
  long = length_push xs s ∙ ap (λ n. n + 1) h.long;
  first = λ _. elim (cases_eq (length xs) 0) [
    | inl z ↦ rw (get_or_push xs s 0 0 z) (same_Some _ _ (sym f ∙ follower_nil next start xs z))
    | inr z ↦ get_or_append_left xs (s ∷ []) 0 0 (omega arith) ∙ h.first (omega arith)
  ];
  linked = λ k l. elim (push_cases xs s (k + 1) l) [
    | inl p ↦ rw p.1 (rw (get_or_append_left xs (s ∷ []) 0 k (omega arith)) (h.linked k p.0))
    | inr p ↦ rw p.1 (rw (get_or_append_left xs (s ∷ []) 0 k (omega arith))
        (let last : k ≡ length xs - 1 = omega arith in rw last (sym (follower_more next start xs (omega arith)) ∙ f)))
  ];
}

-- what follows a front of a chain is its next member
pub follower_is : (next : ℕ → Option ℕ) (start n i : ℕ) (c : List ℕ)
    → IsChain next start n c
    → i < n
    → follower next start (take i c) ≡ Some (get_or c i 0)
follower_is next start n i c h l =
    let long = length-take-le i c (omega (arith, h.long)) in
    elim (cases_eq i 0) [
      | inl z ↦ follower_nil next start (take i c) (omega arith) ∙ ap Some (rw z (sym (h.first (omega (arith, h.long)))))
      | inr z ↦
          let before : i - 1 + 1 ≡ i = omega arith in
          let e = h.linked (i - 1) (omega (arith, h.long)) in
          follower_more next start (take i c) (omega arith)
          ∙ rw (long, get_or-take i c (i - 1) 0 (omega arith)) (e ∙ ap (λ k. Some (get_or c k 0)) before)
    ]

-- what follows the first members is the chain's next one, where these are its first
pub next_is : (next : ℕ → Option ℕ) (start n i s : ℕ) (xs c : List ℕ)
    → IsChain next start n c
    → i < n
    → xs ≡ take i c
    → follower next start xs ≡ Some s
    → get_or c i 0 ≡ s
next_is next start n i s xs c h l e f =
    same_Some _ _ (sym (follower_is next start n i c h l) ∙ ap (follower next start) (sym e) ∙ f)

-- a chain that begins with these members has the one that follows them
pub same_push : (next : ℕ → Option ℕ) (start n i s : ℕ) (xs c : List ℕ)
    → IsChain next start n c
    → i < n
    → xs ≡ take i c
    → follower next start xs ≡ Some s
    → xs ++ s ∷ [] ≡ take (i + 1) c
same_push next start n i s xs c h l e f =
    let at = next_is next start n i s xs c h l e f in
    sym (take_more c i 0 (omega (arith, h.long)) ∙ rw (← e, at) refl)

-- the next member of a list that can be claimed is free when those before it have been claimed
pub free_at : (limit i : ℕ) (used c : List ℕ) → CanClaim limit used c → i < length c → IsFree limit (used ++ take i c) (get_or c i 0)
free_at limit i used c h l =
    let long = length-append used (take i c) in
    let front = length-take-le i c (omega arith) in
    record {
      below = h.below i l;
      unused = λ k b e. h.distinct k (length used + i) (omega arith) (omega (arith, length-append used c))
          (same_front k b ∙ e ∙ sym (get_or-append-add used c i 0));
    }
  where
    same_front : (k : ℕ) → k < length (used ++ take i c) → get_or (used ++ c) k 0 ≡ get_or (used ++ take i c) k 0
    same_front k b = rw (← take-append-add used c i) (sym (get_or-take (length used + i) (used ++ c) k 0 (omega (arith, length-append used (take i c), length-take-le i c (omega arith)))))
