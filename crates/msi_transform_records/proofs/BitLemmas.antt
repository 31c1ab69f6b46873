-- Bits of masks of 16 bits.
use Rattle.std.proofs.Common.{◌≡◌, ℕ, ◌/◌, ◌%◌, ◌^◌, ◌<◌, ◌≤◌, not, refl, sym, ap, ◌∙◌, arith, inl, inr}
use Rattle.std.specs.Prelude.{◌==◌, nat_lt}
use Rattle.std.proofs.Math.Nat.{div-eq_of_lt, pow-le-pow_right}
use Rattle.std.proofs.lemmas.Bool.{cases_lt, lt-ltb, le-ltb}
use Rattle.std.proofs.lemmas.Bool.Decides.{nat_tests}
use Rattle.std.proofs.lemmas.Nat.{le-div, pow_pos}
use Rattle.msi_table_values.specs.Columns.{has_bit}

-- a mask has no bit from the 16th on
below : (mask i : ℕ) → mask < 2 ^ 16 → 16 ≤ i → mask < 2 ^ i
below mask i fits past = omega (arith, pow-le-pow_right {n = 2} (omega arith) {i = 16} {j = i} past)

pub no_bit : (mask i : ℕ) → mask < 2 ^ 16 → 16 ≤ i → nat_lt i 16 ≡ has_bit mask (2 ^ i)
no_bit mask i fits past =
    let none : mask / 2 ^ i ≡ 0 = div-eq_of_lt (below mask i fits past) in
    le-ltb i 16 past ∙ ap (λ (n : ℕ). n % 2 == 1) (sym none)

pub no_bit_past : (mask count : ℕ) → mask < 2 ^ 16 → 16 ≤ count → nat_lt count 16 ≡ not (nat_lt mask (2 ^ count))
no_bit_past mask count fits past = le-ltb count 16 past ∙ ap not (sym (lt-ltb mask (2 ^ count) (below mask count fits past)))

quotient : (mask p q : ℕ) → 0 < p → q ≡ mask / p → not (q == 0) ≡ not (nat_lt mask p)
quotient mask p q h e =
    elim (cases_lt mask p) [
      | inl lt ↦ (let none : q ≡ 0 = e ∙ div-eq_of_lt lt in rw (none, lt-ltb mask p lt) refl)
      | inr le ↦ (let some : 1 ≤ q = rw e (le-div 1 mask p h (omega arith)) in grind (arith, nat_tests))
    ]

pub bits_past : (mask count : ℕ) → not (mask / 2 ^ count == 0) ≡ not (nat_lt mask (2 ^ count))
bits_past mask count = quotient mask (2 ^ count) (mask / 2 ^ count) (pow_pos count) refl
