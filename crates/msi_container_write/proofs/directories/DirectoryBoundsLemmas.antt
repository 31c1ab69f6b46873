-- The numbers in the directory fit their fields.
use Rattle.std.proofs.Common.{◌≡◌, ℕ, zero, suc, ◌+◌, ◌-◌, ◌*◌, ◌^◌, ◌<◌, ◌≤◌, ◌==◌, Bool, true, false, cond, ltb, inl, inr, [], length, get_or, take, ◌∙◌, arith, refl, lit<}
use Rattle.std.specs.Int.{div_ceil}
use Rattle.std.proofs.lemmas.Bool.{cases_eq, eq-eqb, ne_eqb, cases_lt, le-ltb}
use Rattle.std.proofs.lemmas.List.{get_or-map, length-map}
use Rattle.msi_container_write.specs.Balance.{half, middle, left_link, right_link}
use Rattle.msi_container_write.specs.Extents.{all_units, start_of}
use Rattle.msi_container_format.specs.Container.{is_mini}
use Rattle.msi_container_write.specs.Layout.{mini_part, large_part, mini_parts, large_parts, mini_sectors, mini_stream_first, stream_start, taken_by}
use Rattle.msi_container_write.proofs.placing.LaidLemmas.{units_within}
use Rattle.msi_container_write.proofs.placing.PlacedLemmas.{NamedStreams, bytes_of, sector_at, mini_sector_at}

-- LINKS

-- either choice is below n
below_cond : (b : Bool) (x y n : ℕ) → x < n → y < n → cond b x y < n
below_cond true x y n p q = p
below_cond false x y n p q = q

-- a middle is an entry of the range, or none
middle_fits : (lo count : ℕ) → lo + count < 2 ^ 32 → middle lo count < 2 ^ 32
middle_fits lo count h =
    elim (cases_eq count 0) [
      | inl none ↦ rw (eq-eqb count 0 none) (lit< tt)
      | inr some ↦ rw (ne_eqb count 0 some) (omega arith)
    ]

-- so a left link fits; each level may begin one entry further on
pub left_fits : (depth lo count k : ℕ) → lo + count + depth < 2 ^ 32 → left_link depth lo count k < 2 ^ 32
left_fits zero lo count k h = lit< tt
left_fits (suc depth) lo count k h =
    let m = half count in
    let low = left_fits depth lo m k (omega arith) in
    let high = left_fits depth (lo + m + 1) (count - 1 - m) k (omega arith) in
    below_cond (ltb k (lo + m)) _ _ _ low (below_cond (k == lo + m) _ _ _ (middle_fits lo m (omega arith)) high)

-- and so does a right link
pub right_fits : (depth lo count k : ℕ) → lo + count + depth < 2 ^ 32 → right_link depth lo count k < 2 ^ 32
right_fits zero lo count k h = lit< tt
right_fits (suc depth) lo count k h =
    let m = half count in
    let low = right_fits depth lo m k (omega arith) in
    let high = right_fits depth (lo + m + 1) (count - 1 - m) k (omega arith) in
    below_cond (ltb k (lo + m)) _ _ _ low (below_cond (k == lo + m) _ _ _ (middle_fits (lo + m + 1) (count - 1 - m) (omega arith)) high)

-- that is so for few streams
pub links_fit : (n : ℕ) → n < 2 ^ 24 → 1 + n + n < 2 ^ 32
links_fit n h = omega arith

-- and for the root's link
pub root_child_fits : (n : ℕ) → n < 2 ^ 24 → middle 1 n < 2 ^ 32
root_child_fits n h = middle_fits 1 n (omega arith)

-- PARTS

-- in what is taken there are few streams and few mini sectors
taken_bounds : (n m l : ℕ) → div_ceil (n + 1) 4 + div_ceil m 128 + div_ceil m 8 + l < 2 ^ 22 → (n < 2 ^ 24) × (m < 2 ^ 25)
taken_bounds n m l h = (omega arith, omega arith)

-- and each part is of few bytes
part_bound : (n before all : ℕ) → before + div_ceil n 512 ≤ all → all < 2 ^ 22 → n < 2 ^ 32
part_bound n before all h b = omega arith

module _ (streams : NamedStreams) (few : taken_by streams < 2 ^ 22) where
  -- how many streams there are
  pub streams_fit : length streams < 2 ^ 24
  streams_fit = (taken_bounds (length streams) (mini_sectors streams) (all_units 512 (large_parts streams)) few).0

  -- how many mini sectors
  mini_sectors_fit : mini_sectors streams < 2 ^ 25
  mini_sectors_fit = (taken_bounds (length streams) (mini_sectors streams) (all_units 512 (large_parts streams)) few).1

  -- where the root starts
  pub root_start_fits : start_of (mini_stream_first streams) (mini_sectors streams) < 2 ^ 32
  root_start_fits = below_cond (mini_sectors streams == 0) _ _ _ (lit< tt) (omega arith)

  -- and its size
  pub root_size_fits : 64 * mini_sectors streams < 2 ^ 32
  root_size_fits = omega (arith, mini_sectors_fit)

  -- the size of a stream
  pub size_fits : (i : ℕ) → i < length streams → length (bytes_of streams i) < 2 ^ 32
  size_fits i l =
      elim (cases_lt (length (bytes_of streams i)) 4096) [
        | inl small ↦ omega arith
        | inr large ↦
            let within = units_within 512 (large_parts streams) i (rw (length-map streams large_part) l) in
            let part : get_or (large_parts streams) i [] ≡ bytes_of streams i =
            get_or-map large_part streams i ([], []) [] l ∙ rw (le-ltb (length (bytes_of streams i)) 4096 large) refl in
            part_bound (length (bytes_of streams i)) (all_units 512 (take i (large_parts streams))) (all_units 512 (large_parts streams)) (rw part at within) (omega arith)
      ]

  -- and where it starts
  pub stream_start_fits : (i : ℕ) → i < length streams → stream_start (sector_at streams i) (mini_sector_at streams i) (length (bytes_of streams i)) < 2 ^ 32
  stream_start_fits i l =
      let large = units_within 512 (large_parts streams) i (rw (length-map streams large_part) l) in
      let small = units_within 64 (mini_parts streams) i (rw (length-map streams mini_part) l) in
      below_cond (length (bytes_of streams i) == 0) _ _ _ (lit< tt) (below_cond (is_mini (length (bytes_of streams i))) _ _ _ (omega (arith, mini_sectors_fit)) (omega arith))
