-- What can be claimed, in parts.
use Rattle.std.proofs.Common.{◌≡◌, ℕ, ◌+◌, ◌-◌, ◌≤◌, Bool, List, ◌++◌, length, inl, inr, sym, ◌∙◌, subst, arith, refl, Vec, Global, vec_len}
use Rattle.std.specs.List.{count_by}
use Rattle.std.proofs.lemmas.List.Sums.{count_by-le-length}
use Rattle.std.proofs.lemmas.Bool.{cases_lt}
use Rattle.std.proofs.lemmas.List.{append_assoc, length-append, get_or_append_left, get_or-append_right, get_or-append-add}
use Rattle.msi_container_format.specs.Chains.{AreDistinct, AreBelow}
use Rattle.msi_container_tables.specs.Claims.{CanClaim, MarkedAre}
use Rattle.msi_container_tables.proofs.chains.ClaimLemmas.{below_marked}

pub below_front : (limit : ℕ) (xs ys : List ℕ) → AreBelow limit (xs ++ ys) → AreBelow limit xs
below_front limit xs ys b = λ i l. rw (get_or_append_left xs ys 0 i l) at (b i (omega (arith, length-append xs ys)))

pub below_back : (limit : ℕ) (xs ys : List ℕ) → AreBelow limit (xs ++ ys) → AreBelow limit ys
below_back limit xs ys b = λ i l. rw (get_or-append-add xs ys i 0) at (b (length xs + i) (omega (arith, length-append xs ys)))

pub below_both : (limit : ℕ) (xs ys : List ℕ) → AreBelow limit xs → AreBelow limit ys → AreBelow limit (xs ++ ys)
below_both limit xs ys a b i l =
    elim (cases_lt i (length xs)) [
      | inl h ↦ rw (get_or_append_left xs ys 0 i h) (a i h)
      | inr h ↦ rw (get_or-append_right xs ys (length xs) i 0 refl h) (b (i - length xs) (omega (arith, length-append xs ys)))
    ]

pub distinct_front : (xs ys : List ℕ) → AreDistinct (xs ++ ys) → AreDistinct xs
distinct_front xs ys d i j l h e = d i j l (omega (arith, length-append xs ys)) (get_or_append_left xs ys 0 i (omega arith) ∙ e ∙ sym (get_or_append_left xs ys 0 j h))

pub distinct_back : (xs ys : List ℕ) → AreDistinct (xs ++ ys) → AreDistinct ys
distinct_back xs ys d i j l h e =
    d (length xs + i) (length xs + j) (omega arith) (omega (arith, length-append xs ys)) (get_or-append-add xs ys i 0 ∙ e ∙ sym (get_or-append-add xs ys j 0))

-- a front that can be claimed, and the rest behind it
pub claim_front : (limit : ℕ) (used xs ys : List ℕ) → CanClaim limit used (xs ++ ys) → CanClaim limit used xs
claim_front limit used xs ys can = record {
  below = below_front limit xs ys can.below;
  distinct = distinct_front (used ++ xs) ys (rw (← append_assoc used xs ys) at can.distinct);
}

pub claim_back : (limit : ℕ) (used xs ys : List ℕ) → CanClaim limit used (xs ++ ys) → CanClaim limit (used ++ xs) ys
claim_back limit used xs ys can = record {
  below = below_back limit xs ys can.below;
  distinct = rw (← append_assoc used xs ys) at can.distinct;
}

-- what the claims are beside those that were there
pub claimed_room : (marks : Vec Bool Global) (limit : ℕ) (list used c : List ℕ) → vec_len marks ≡ limit → MarkedAre marks.items list → AreDistinct list → list ≡ used ++ c → CanClaim limit used c
claimed_room marks limit list used c e m d same =
    let below : AreBelow limit list = λ i l. omega (arith, below_marked marks.items list m i l, marks.ok, e) in
    record {
      below = below_back limit used c (subst (AreBelow limit) same below);
      distinct = subst AreDistinct same d;
    }

-- no more is claimed than there is to claim
pub few_claimed : (marks : Vec Bool Global) (list : Vec ℕ Global) → count_by (λ b. b) marks.items ≡ vec_len list → vec_len list ≤ vec_len marks
few_claimed marks list e = omega (arith, e, count_by-le-length (λ (b : Bool). b) marks.items, marks.ok)
