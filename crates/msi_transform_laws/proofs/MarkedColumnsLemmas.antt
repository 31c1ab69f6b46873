-- The bits of a mask that is made for columns.
use Rattle.std.proofs.Common.{◌≡◌, ℕ, ◌+◌, ◌-◌, ◌*◌, ◌^◌, ◌<◌, ◌≤◌, Bool, true, false, List, [], ◌∷◌, map, refl, ap, arith, subst, sym, ◌∙◌, inl, inr, add-mul, mul_assoc, zero-mul}
use Rattle.std.specs.Prelude.{⊤, ◌==◌, filter}
use Rattle.std.specs.Int.{bit_at}
use Rattle.std.specs.List.{enumerate_from, list_any}
use Rattle.std.proofs.lemmas.Bool.{cases_eq, cases_lt, eq-eqb, ne_eqb}
use Rattle.std.proofs.lemmas.Nat.{pow-add, pow_pos}
use Rattle.std.proofs.lemmas.Nat.Bits.{bit_at-pow_other, bit_at-pow_same, bit_at-zero, bit_at_cat_high, bit_at_cat_low}
use Rattle.msi_base.proofs.BoolLemmas.{by_test}
use Rattle.msi_transform_making.specs.Making.{mask_for}

-- each at least one more than the one before
abbrev pub Above : ℕ → List ℕ → Type 0
Above n [] = ⊤
Above n (i ∷ is) = (n ≤ i) × Above (i + 1) is

pub numbers_rise : {X : Type 0} (p : ℕ × X → Bool) (m n : ℕ) (xs : List X) → m ≤ n → Above m (map (λ e. e.0) (filter p (enumerate_from n xs)))
numbers_rise p m n [] h = tt
numbers_rise {X = X} p m n (x ∷ xs) h = by_test (p (n, x))
    (λ t. rw t (h, numbers_rise p (n + 1) (n + 1) xs (omega arith)))
    (λ t. rw t (numbers_rise p m (n + 1) xs (omega arith)))

not_among : (j n : ℕ) (is : List ℕ) → j < n → Above n is → list_any (λ i. i == j) is ≡ false
not_among j n [] h a = refl
not_among j n (i ∷ is) h a =
    let p : n ≤ i = a.0 in
    let rest : list_any (λ i. i == j) is ≡ false = not_among j (i + 1) is (omega arith) a.1 in
    rw (ne_eqb i j (λ e. omega arith), rest) refl

scaled : (n m : ℕ) → n ≤ m → 2 ^ m ≡ 2 ^ (m - n) * 2 ^ n
scaled n m h = let split : m ≡ (m - n) + n = omega arith in ap (λ (e : ℕ). 2 ^ e) split ∙ pow-add 2 (m - n) n

-- a mask has no bits below that of its first column
multiple : (n : ℕ) (is : List ℕ) → Above n is → (k : ℕ) × (mask_for is ≡ k * 2 ^ n)
multiple n [] a = (0, sym (zero-mul (2 ^ n)))
multiple n (i ∷ is) a =
    let r = multiple (i + 1) is a.1 in
    let p : n ≤ i = a.0 in
    let here : 2 ^ i ≡ 2 ^ (i - n) * 2 ^ n = scaled n i p in
    let there : mask_for is ≡ r.0 * 2 ^ (i + 1 - n) * 2 ^ n =
    r.1 ∙ ap (λ (m : ℕ). r.0 * m) (scaled n (i + 1) (omega arith)) ∙ sym (mul_assoc r.0 (2 ^ (i + 1 - n)) (2 ^ n)) in
    (2 ^ (i - n) + r.0 * 2 ^ (i + 1 - n), (λ t. here t + there t) ∙ sym (add-mul (2 ^ (i - n)) (r.0 * 2 ^ (i + 1 - n)) (2 ^ n)))

pub bit_marked : (j n : ℕ) (is : List ℕ) → Above n is → (bit_at (mask_for is) j == 1) ≡ list_any (λ i. i == j) is
bit_marked j n [] a = rw (bit_at-zero j) refl
bit_marked j n (i ∷ is) a =
    let r = multiple (i + 1) is a.1 in
    let rest : mask_for is ≡ r.0 * 2 ^ (i + 1) = r.1 in
    let mask : mask_for (i ∷ is) ≡ r.0 * 2 ^ (i + 1) + 2 ^ i = omega arith in
    let twice : 2 ^ (i + 1) ≡ 2 ^ i * 2 = pow-add 2 i 1 in
    let some : 0 < 2 ^ i = pow_pos i in
    let small : 2 ^ i < 2 ^ (i + 1) = omega arith in
    elim (cases_lt j (i + 1)) [
      | inl low ↦ (let first : bit_at (mask_for (i ∷ is)) j ≡ bit_at (2 ^ i) j = ap (λ (m : ℕ). bit_at m j) mask ∙ bit_at_cat_low r.0 (i + 1) (2 ^ i) j low in
          let none : list_any (λ i. i == j) is ≡ false = not_among j (i + 1) is low a.1 in
          elim (cases_eq i j) [
            | inl e ↦ rw (first, none, eq-eqb i j e) (subst (λ (m : ℕ). (bit_at (2 ^ i) m == 1) ≡ true) e (rw (bit_at-pow_same i) refl))
            | inr e ↦ rw (first, none, ne_eqb i j e) (rw (bit_at-pow_other i j (λ f. e (sym f))) refl)
          ])
      | inr high ↦ (let first : bit_at (mask_for (i ∷ is)) j ≡ bit_at r.0 (j - (i + 1)) = ap (λ (m : ℕ). bit_at m j) mask ∙ bit_at_cat_high r.0 (i + 1) (2 ^ i) j small high in
          let whole : mask_for is ≡ r.0 * 2 ^ (i + 1) + 0 = omega arith in
          let others : bit_at (mask_for is) j ≡ bit_at r.0 (j - (i + 1)) = ap (λ (m : ℕ). bit_at m j) whole ∙ bit_at_cat_high r.0 (i + 1) 0 j (pow_pos (i + 1)) high in
          rw (ne_eqb i j (λ e. omega arith)) (ap (λ (b : ℕ). b == 1) (first ∙ sym others) ∙ bit_marked j (i + 1) is a.1))
    ]
