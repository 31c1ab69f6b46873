-- Chains that run to the end mark, by their fronts.
use Rattle.std.proofs.Common.{◌≡◌, ◌≢◌, ℕ, ◌+◌, ◌-◌, ◌<◌, ◌≤◌, List, [], ◌∷◌, ◌++◌, length, get_or, take, Option, Some, inl, inr, sym, ◌∙◌, ap, arith}
use Rattle.std.proofs.lemmas.List.{take_all, length_push, get_or_push}
use Rattle.std.proofs.lemmas.Bool.{cases_lt}
use Rattle.std.proofs.lemmas.Option.{same_Some}
use Rattle.msi_container_tables.specs.Claims.{CanClaim}
use Rattle.msi_container_tables.specs.Walks.{follower}
use Rattle.msi_container_format.specs.Container.{IsWholeChain}
use Rattle.msi_container_format.specs.Format.{END_OF_CHAIN, MAX_REGULAR_SECTOR}
use Rattle.msi_container_tables.proofs.chains.ChainLemmas.{follower_is, follower_more, next_is, same_push}

-- these are the chain's first members
pub record IsFront (c xs : List ℕ) : Type 0 where
  pub front : xs ≡ take (length xs) c
  pub within : length xs ≤ length c

-- where what follows a front isn't the end mark, members are left
pub more_left : (next : ℕ → Option ℕ) (start link : ℕ) (c xs : List ℕ)
    → IsWholeChain next start c
    → IsFront c xs
    → follower next start xs ≡ Some link
    → link ≢ END_OF_CHAIN
    → length xs < length c
more_left next start link c xs whole f follows n =
    elim (cases_lt (length xs) (length c)) [
      | inl l ↦ l
      | inr l ↦
          let same : xs ≡ c = f.front ∙ take_all (length xs) c l in
          let last : follower next start xs ≡ Some END_OF_CHAIN =
          ap (follower next start) same ∙ follower_more next start c whole.filled ∙ whole.ended in
          absurd (n (same_Some _ _ (sym follows ∙ last)))
    ]

-- at the end mark no member is left, since no member can be claimed that has its number
pub none_left : (next : ℕ → Option ℕ) (start limit : ℕ) (used c xs : List ℕ)
    → IsWholeChain next start c
    → CanClaim limit used c
    → limit ≤ MAX_REGULAR_SECTOR + 1
    → IsFront c xs
    → follower next start xs ≡ Some END_OF_CHAIN
    → xs ≡ c
none_left next start limit used c xs whole can regular f follows =
    elim (cases_lt (length xs) (length c)) [
      | inl l ↦
          let member = next_is next start (length c) (length xs) END_OF_CHAIN xs c whole.chain l f.front follows in
          absurd (omega (arith, member, can.below (length xs) l))
      | inr l ↦ f.front ∙ take_all (length xs) c l
    ]

-- no chain that can be claimed starts with the end mark
pub none_from_end : (next : ℕ → Option ℕ) (start limit : ℕ) (used c : List ℕ)
    → IsWholeChain next start c
    → CanClaim limit used c
    → limit ≤ MAX_REGULAR_SECTOR + 1
    → start ≡ END_OF_CHAIN
    → ⊥
none_from_end next start limit used c whole can regular e = omega (arith, whole.chain.first whole.filled, can.below 0 whole.filled)

-- a front that is one member longer
pub front_push : (next : ℕ → Option ℕ) (start link : ℕ) (c xs : List ℕ)
    → IsWholeChain next start c
    → IsFront c xs
    → follower next start xs ≡ Some link
    → length xs < length c
    → IsFront c (xs ++ link ∷ [])
front_push next start link c xs whole f follows l =
    let long = length_push xs link in
    record {
      front = same_push next start (length c) (length xs) link xs c whole.chain l f.front follows ∙ ap (λ n. take n c) (sym long);
      within = omega arith;
    }

-- what follows a last member is its successor
pub follower_push : (next : ℕ → Option ℕ) (start s : ℕ) (xs : List ℕ) → follower next start (xs ++ s ∷ []) ≡ next s
follower_push next start s xs =
    let long = length_push xs s in
    follower_more next start (xs ++ s ∷ []) (omega arith) ∙ ap next (get_or_push xs s 0 (length (xs ++ s ∷ []) - 1) (omega arith))

-- something follows each front: a member or the end mark
pub some_follows : (next : ℕ → Option ℕ) (start : ℕ) (c xs : List ℕ)
    → IsWholeChain next start c
    → IsFront c xs
    → (x : ℕ) × (follower next start xs ≡ Some x)
some_follows next start c xs whole f =
    elim (cases_lt (length xs) (length c)) [
      | inl l ↦ (get_or c (length xs) 0, ap (follower next start) f.front ∙ follower_is next start (length c) (length xs) c whole.chain l)
      | inr l ↦ (END_OF_CHAIN, ap (follower next start) (f.front ∙ take_all (length xs) c l) ∙ follower_more next start c whole.filled ∙ whole.ended)
    ]
