-- Marks, and the numbers in use.
use Rattle.std.proofs.Common.{◌≡◌, ◌≢◌, ℕ, ◌+◌, ◌<◌, Bool, true, false, cond, List, [], ◌∷◌, ◌++◌, length, get_or, set, Result, Err, ◌⊎◌, inl, inr, sym, ◌∙◌, ap, arith, refl, Vec, Global, vec_len}
use Rattle.std.specs.List.{count_by}
use Rattle.std.proofs.lemmas.List.{get_or-set_same, get_or-set_other, get_or_push, get_or_append_left, length_push, get_or_past}
use Rattle.std.proofs.lemmas.List.Sums.{sum_by-set}
use Rattle.std.proofs.lemmas.Bool.{cases_eq, cases_lt}
use Rattle.msi_base.specs.declared.errors.ErrorKind.{ErrorKind}
use Rattle.msi_base.specs.declared.errors.ErrorKind.TheVariants.{InvalidData, OutOfMemory}
use Rattle.msi_container_format.specs.Chains.{AreDistinct, AreBelow}
use Rattle.msi_container_tables.specs.Claims.{IsFree, MarkedAre, OthersAreUnmarked}
use Rattle.msi_container_tables.specs.Outcomes.{FailsByData}

-- a place in a list that was pushed to is an old one or the last
pub push_cases : (xs : List ℕ) (y k : ℕ)
    → k < length (xs ++ y ∷ [])
    → ((k < length xs) × (get_or (xs ++ y ∷ []) k 0 ≡ get_or xs k 0)) ⊎ ((k ≡ length xs) × (get_or (xs ++ y ∷ []) k 0 ≡ y))
push_cases xs y k l =
    elim (cases_lt k (length xs)) [
      | inl h ↦ inl (h, get_or_append_left xs (y ∷ []) 0 k h)
      | inr h ↦ let e : k ≡ length xs = omega (arith, length_push xs y) in inr (e, get_or_push xs y 0 k (sym e))
    ]

-- with one more number taken and its mark set, what is in use is still marked
pub marked_push : (marks : List Bool) (used : List ℕ) (number : ℕ)
    → number < length marks
    → MarkedAre marks used
    → MarkedAre (set marks number true) (used ++ number ∷ [])
marked_push marks used number h m k l =
    let at : (t : ℕ) → get_or marks t false ≡ true → get_or (set marks number true) t false ≡ true = λ t e.
    elim (cases_eq t number) [
      | inl q ↦ rw q (get_or-set_same marks number true false h)
      | inr q ↦ get_or-set_other marks number t true false q ∙ e
    ] in
    elim (push_cases used number k l) [
      | inl p ↦ rw p.1 (at (get_or used k 0) (m k p.0))
      | inr p ↦ rw p.1 (get_or-set_same marks number true false h)
    ]

-- and the others are still unmarked
pub unmarked_push : (marks : List Bool) (used : List ℕ) (number : ℕ)
    → OthersAreUnmarked marks used
    → OthersAreUnmarked (set marks number true) (used ++ number ∷ [])
unmarked_push marks used number u t n =
    let other : t ≢ number = λ e. n (length used) (omega (arith, length_push used number)) (get_or_push used number 0 (length used) refl ∙ sym e) in
    get_or-set_other marks number t true false other
    ∙ u t (λ k l e. n k (omega (arith, length_push used number)) (get_or_append_left used (number ∷ []) 0 k l ∙ e))

-- there is one more mark
pub counted_push : (marks : List Bool) (number : ℕ)
    → number < length marks
    → get_or marks number false ≡ false
    → count_by (λ b. b) (set marks number true) ≡ count_by (λ b. b) marks + 1
counted_push marks number h e =
    let one : Bool → ℕ = λ b. cond b 1 0 in
    let k = sum_by-set one marks number true false h in
    let z : one (get_or marks number false) ≡ 0 = ap one e in
    omega (arith, k, z)

-- no number stands twice after one was taken that wasn't in use
pub distinct_push : (used : List ℕ) (number : ℕ)
    → AreDistinct used
    → ((k : ℕ) → k < length used → get_or used k 0 ≢ number)
    → AreDistinct (used ++ number ∷ [])
distinct_push used number d n i j l h e =
    elim (push_cases used number i (omega arith)) [
      | inl p ↦ elim (push_cases used number j h) [
        | inl q ↦ d i j l q.0 (sym p.1 ∙ e ∙ q.1)
        | inr q ↦ n i p.0 (sym p.1 ∙ e ∙ q.1)
      ]
      | inr p ↦ absurd (omega (arith, length_push used number))
    ]

-- what isn't marked isn't in use
pub free_unmarked : (marks : List Bool) (used : List ℕ) (number : ℕ)
    → MarkedAre marks used
    → get_or marks number false ≡ false
    → (k : ℕ) → k < length used → get_or used k 0 ≢ number
free_unmarked marks used number m e k l q =
    let marked = m k l in
    let clear : get_or marks (get_or used k 0) false ≡ false = rw q e in
    cc

-- what is in use is below the number of marks
pub below_marked : (marks : List Bool) (used : List ℕ) → MarkedAre marks used → AreBelow (length marks) used
below_marked marks used m i l =
    elim (cases_lt (get_or used i 0) (length marks)) [
      | inl h ↦ h
      | inr h ↦ let past = get_or_past marks (get_or used i 0) false h in let marked = m i l in cc
    ]

pub below_vector : (marks : Vec Bool Global) (used : List ℕ) → MarkedAre marks.items used → AreBelow (vec_len marks) used
below_vector marks used m i l = omega (arith, below_marked marks.items used m i l, marks.ok)

-- a claim that failed, although the number was free, failed for want of memory
pub claim_lacked_memory : (limit number : ℕ) (used : List ℕ) (e : ErrorKind)
    → FailsByData {X = Unit {0}} (Err e)
    → (◌≡◌ {A = Result (Unit {0}) ErrorKind} (Err e) (Err InvalidData) → IsFree limit used number → ⊥)
    → IsFree limit used number
    → e ≡ OutOfMemory
claim_lacked_memory limit number used e fails invalid free =
    elim fails [ inl broken ↦ absurd (invalid (ap Err broken) free) | inr lacking ↦ lacking ]
