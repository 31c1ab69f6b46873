-- Sectors that were read behind a copy, one after the other.
use Rattle.std.proofs.Common.{◌≡◌, ℕ, ◌+◌, ◌-◌, ◌*◌, ◌<◌, ◌≤◌, List, [], ◌∷◌, ◌++◌, length, get_or, map, Option, inl, inr, sym, ◌∙◌, ap, arith, refl}
use Rattle.std.specs.List.{range_with_len}
use Rattle.std.proofs.Math.Nat.{mul-le-mul_right}
use Rattle.std.proofs.lemmas.Bool.{cases_lt}
use Rattle.std.proofs.lemmas.List.{map-id, length-append, get_or_append_left, get_or-append-add}
use Rattle.std.proofs.lemmas.List.FromFn.{map-range_with_len_more, get_or-map-range_with_len}
use Rattle.msi_container_device.specs.Held.{Held, bytes_told}
use Rattle.msi_container_view.specs.Reading.{Tells, IsAppended}
use Rattle.msi_container_view.proofs.extent_lemmas.SectorRunLemmas.{Follow}

-- so many numbers from one on, and one more
pub range_more : (first n : ℕ) → range_with_len first (n + 1) ≡ range_with_len first n ++ (first + n) ∷ []
range_more first n =
    sym (map-id (range_with_len first (n + 1))) ∙ map-range_with_len_more (λ (k : ℕ). k) first n (first + n) refl
    ∙ ap (λ xs. xs ++ (first + n) ∷ []) (map-id (range_with_len first n))

-- the first of these sectors stand behind a copy, which is as it was
pub record AreBehind (held : Option Held) (size : ℕ) (old new sectors : List ℕ) (at : ℕ) : Type 0 where
  pub long : length new ≡ length old + at * size
  pub front : (k : ℕ) → k < length old → get_or new k 0 ≡ get_or old k 0
  pub told : (file : List ℕ) → Tells held file → (i j : ℕ) → i < at → j < size
      → get_or new (length old + (i * size + j)) 0 ≡ get_or file ((get_or sectors i 0 + 1) * size + j) 0

pub none_behind : (held : Option Held) (size : ℕ) (old sectors : List ℕ) → AreBehind held size old old sectors 0
none_behind held size old sectors = record {
  long = omega arith;
  front = λ k l. refl;
  told = λ file t i j l b. absurd (omega arith);
}

-- byte j of sector i lies within so many sectors
pub in_row : (size many i j : ℕ) → i < many → j < size → i * size + j < many * size
in_row size many i j l b =
    let whole : i + 1 ≤ many = omega arith in
    omega (arith, mul-le-mul_right size whole)

-- the bytes of a run are those of its sectors
run_byte : (size first d j place : ℕ) → place ≡ (first + 1) * size → place + (d * size + j) ≡ (first + d + 1) * size + j
run_byte size first d j place e = rw e (omega arith)

later_byte : (old long at d i size j : ℕ) → i ≡ at + d → long ≡ old + at * size → old + (i * size + j) ≡ long + (d * size + j)
later_byte old long at d i size j e f = rw (e, f) (omega arith)

-- a run more was read
pub run_behind : (held now : Option Held) (size : ℕ) (old copy new sectors : List ℕ) (first at run place count : ℕ)
    → bytes_told now ≡ bytes_told held
    → AreBehind held size old copy sectors at
    → Follow sectors first at run
    → place ≡ (first + 1) * size
    → count ≡ run * size
    → IsAppended now place count copy new
    → AreBehind held size old new sectors (at + run)
run_behind held now size old copy new sectors first at run place count same so_far follow is_place is_count a = record {
  long = ap (λ (xs : List ℕ). length xs) a.behind ∙ length-append copy a.piece ∙ omega (arith, so_far.long, a.long);
  front = λ k l. ap (λ xs. get_or xs k 0) a.behind ∙ get_or_append_left copy a.piece 0 k (omega (arith, so_far.long)) ∙ so_far.front k l;
  told = λ file t i j l b. elim (cases_lt i at) [
    | inl h ↦
        let inside = in_row size at i j h b in
        ap (λ xs. get_or xs (length old + (i * size + j)) 0) a.behind
        ∙ get_or_append_left copy a.piece 0 (length old + (i * size + j)) (omega (arith, so_far.long)) ∙ so_far.told file t i j h b
    | inr h ↦
        let d = i - at in
        let later : i ≡ at + d = omega arith in
        let inside = in_row size run d j (omega arith) b in
        let stands : length old + (i * size + j) ≡ length copy + (d * size + j) = later_byte (length old) (length copy) at d i size j later so_far.long in
        let told : a.piece ≡ map (λ p. get_or file (place + p) 0) (range_with_len 0 count) = a.told file (same ∙ t) in
        let member : get_or sectors i 0 ≡ first + d = ap (λ n. get_or sectors n 0) later ∙ follow d (omega arith) in
        ap (λ n. get_or new n 0) stands ∙ ap (λ xs. get_or xs (length copy + (d * size + j)) 0) a.behind
        ∙ get_or-append-add copy a.piece (d * size + j) 0
        ∙ ap (λ xs. get_or xs (d * size + j) 0) told
        ∙ get_or-map-range_with_len (λ p. get_or file (place + p) 0) 0 count (d * size + j) (d * size + j) 0 (omega arith) (omega arith)
        ∙ ap (λ n. get_or file n 0) (run_byte size first d j place is_place ∙ ap (λ n. (n + 1) * size + j) (sym member))
  ];
}
