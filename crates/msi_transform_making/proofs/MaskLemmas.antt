-- Masks of columns: those that have bits give a number of 16 bits.
use Rattle.std.proofs.Common.{◌≡◌, ℕ, ◌+◌, ◌*◌, ◌^◌, ◌<◌, ◌≤◌, Bool, true, List, [], ◌∷◌, map, not, refl, arith, subst, sym, zip}
use Rattle.std.specs.Prelude.{⊤, filter, nat_lt}
use Rattle.std.specs.List.{enumerate_from}
use Rattle.std.proofs.Math.Nat.{pow-le-pow_right}
use Rattle.std.proofs.lemmas.Bool.{and_parts, ltb-true}
use Rattle.std.proofs.lemmas.Nat.{pow-add}
use Rattle.msi_base.proofs.BoolLemmas.{by_test}
use Rattle.msi_table_values.specs.declared.value.Value.{Value}
use Rattle.msi_transform_applying.specs.Applying.{same_stream}
use Rattle.msi_transform_making.specs.Making.{ToldRow, can_be_marked, differing, has_bit_for, mask_for, same_value}

pub bits_first : (i : ℕ) (is : List ℕ) → can_be_marked (i ∷ is) ≡ true → (i < 16) × (can_be_marked is ≡ true)
bits_first i is h =
    let p = and_parts (has_bit_for i) (can_be_marked is) h in
    let q = and_parts (nat_lt 0 i) (nat_lt i 16) p.0 in
    (ltb-true i 16 q.1, p.1)

-- each at least one more than the one before
abbrev Above : ℕ → List ℕ → Type 0
Above n [] = ⊤
Above n (i ∷ is) = (n ≤ i) × Above (i + 1) is

mask_fits : (n : ℕ) (is : List ℕ) → n ≤ 16 → Above n is → can_be_marked is ≡ true → mask_for is + 2 ^ n ≤ 65536
mask_fits n [] h a b = let most : 2 ^ n ≤ 65536 = pow-le-pow_right {n = 2} (omega arith) {i = n} {j = 16} h in omega arith
mask_fits n (i ∷ is) h a b =
    let p = bits_first i is b in
    let below : i < 16 = p.0 in
    let from : n ≤ i = a.0 in
    let rest : mask_for is + 2 ^ (i + 1) ≤ 65536 = mask_fits (i + 1) is (omega arith) a.1 p.1 in
    let here : 2 ^ n ≤ 2 ^ i = pow-le-pow_right {n = 2} (omega arith) {i = n} {j = i} from in
    let twice : 2 ^ (i + 1) ≡ 2 ^ i * 2 = pow-add 2 i 1 in
    let first : mask_for (i ∷ is) ≡ 2 ^ i + mask_for is = refl in
    omega arith

numbers_rise : {X : Type 0} (p : ℕ × X → Bool) (m n : ℕ) (xs : List X) → m ≤ n → Above m (map (λ e. e.0) (filter p (enumerate_from n xs)))
numbers_rise p m n [] h = tt
numbers_rise {X = X} p m n (x ∷ xs) h = by_test (p (n, x))
    (λ t. rw t (h, numbers_rise p (n + 1) (n + 1) xs (omega arith)))
    (λ t. rw t (numbers_rise p m (n + 1) xs (omega arith)))

pub mask_small : (is : List ℕ) (old new : ToldRow) → is ≡ differing old new → can_be_marked is ≡ true → mask_for is < 65536
mask_small is old new at b =
    let rises : Above 0 is = subst (Above 0) (sym at) (numbers_rise {X = Value × Value} (λ e. not (same_value (same_stream old.stream new.stream) e.1)) 0 0 (zip old.values new.values) (omega arith)) in
    let fits : mask_for is + 2 ^ 0 ≤ 65536 = mask_fits 0 is (omega arith) rises b in
    omega arith

pub mask_of_one : (i : ℕ) → has_bit_for i ≡ true → mask_for (i ∷ []) < 65536
mask_of_one i b =
    let all : can_be_marked (i ∷ []) ≡ true = rw b refl in
    let fits : mask_for (i ∷ []) + 2 ^ 0 ≤ 65536 = mask_fits 0 (i ∷ []) (omega arith) (omega arith, tt) all in
    omega arith
