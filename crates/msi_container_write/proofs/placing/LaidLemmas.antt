-- Parts laid in order: their bytes and their units; numbers by their bytes; and sectors that are numbered in a row.
use Rattle.std.proofs.Common.{◌≡◌, ℕ, zero, suc, ◌+◌, ◌-◌, ◌*◌, ◌/◌, ◌<◌, ◌≤◌, ◌^◌, eqb, List, [], ◌∷◌, length, get_or, take, arith, refl}
use Rattle.std.specs.List.{range_with_len}
use Rattle.std.proofs.lemmas.Bool.{lt-ltb, le-ltb}
use Rattle.std.proofs.lemmas.List.FromFn.{get_or-range_with_len}
use Rattle.msi_container_format.specs.Bytes.{place}
use Rattle.msi_container_write.specs.Extents.{units, all_units, laid_byte, is_last, number_byte}

-- byte p of part i, which begins where those before it end
pub laid_at : (size : ℕ) (parts : List (List ℕ)) (i p : ℕ) → i < length parts → p < units size (get_or parts i []) * size → laid_byte size parts (all_units size (take i parts) * size + p) ≡ get_or (get_or parts i []) p 0
laid_at size [] i p l h = absurd (omega arith)
laid_at size (part ∷ parts) zero p l h =
    let e : 0 * size + p ≡ p = omega arith in
    rw (e, lt-ltb p (units size part * size) h) refl
laid_at size (part ∷ parts) (suc i) p l h =
    let U = units size part in
    let V = all_units size (take i parts) in
    let e : (U + V) * size + p - U * size ≡ V * size + p = omega arith in
    let past : U * size ≤ (U + V) * size + p = omega arith in
    rw (le-ltb ((U + V) * size + p) (U * size) past, e) (laid_at size parts i p (omega arith) h)

-- unit k of part i is the last exactly if no unit of the part follows
pub last_at : (size : ℕ) (parts : List (List ℕ)) (i k : ℕ) → i < length parts → k < units size (get_or parts i []) → is_last size parts (all_units size (take i parts) + k) ≡ eqb (k + 1) (units size (get_or parts i []))
last_at size [] i k l h = absurd (omega arith)
last_at size (part ∷ parts) zero k l h =
    let e : 0 + k ≡ k = omega arith in
    rw (e, lt-ltb k (units size part) h) refl
last_at size (part ∷ parts) (suc i) k l h =
    let U = units size part in
    let V = all_units size (take i parts) in
    let e : U + V + k - U ≡ V + k = omega arith in
    rw (le-ltb (U + V + k) U (omega arith), e) (last_at size parts i k (omega arith) h)

-- the units of a part lie within those of all
pub units_within : (size : ℕ) (parts : List (List ℕ)) (i : ℕ) → i < length parts → all_units size (take i parts) + units size (get_or parts i []) ≤ all_units size parts
units_within size [] i l = absurd (omega arith)
units_within size (part ∷ parts) zero l = omega arith
units_within size (part ∷ parts) (suc i) l = let h = units_within size parts i (omega arith) in omega arith

-- a number by its bytes
pub from_bytes : (n : ℕ) → n < 2 ^ 32 → number_byte n 0 + 256 * number_byte n 1 + 65536 * (number_byte n 2 + 256 * number_byte n 3) ≡ n
from_bytes n h = omega arith

-- a number from its four bytes
pub number_from : (a b c d n : ℕ) → n < 2 ^ 32 → a ≡ number_byte n 0 → b ≡ number_byte n 1 → c ≡ number_byte n 2 → d ≡ number_byte n 3 → a + 256 * b + 65536 * (c + 256 * d) ≡ n
number_from a b c d n h p q r s = rw (p, q, r, s) (from_bytes n h)

-- byte p of sectors that are numbered in a row
pub place_range : (a n p : ℕ) → p < 512 * n → place 512 (range_with_len a n) p ≡ 512 * (a + 1) + p
place_range a n p l = rw (get_or-range_with_len a n (p / 512) 0 (omega arith)) (omega arith)
