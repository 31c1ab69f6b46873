-- No sector and no mini sector of a layout is used twice.
use Rattle.std.proofs.Common.{◌≡◌, ◌≢◌, ℕ, zero, suc, ◌+◌, ◌-◌, ◌<◌, ◌≤◌, List, [], ◌∷◌, ◌++◌, length, get_or, take, map, inl, inr, sym, ◌∙◌, arith, refl}
use Rattle.std.specs.List.{flat_map, range_with_len}
use Rattle.std.proofs.lemmas.Bool.{cases_lt}
use Rattle.std.proofs.lemmas.List.{append_assoc, length-map, take_all}
use Rattle.std.proofs.lemmas.List.FromFn.{get_or-range_with_len, length-range_with_len}
use Rattle.msi_container_format.specs.Chains.{AreBelow, AreDistinct}
use Rattle.msi_container_write.specs.Extents.{units, all_units}
use Rattle.msi_container_write.specs.Layout.{large_part, mini_part, large_first, taken_by, mini_sectors, mini_fat_sectors, mini_stream_sectors, directory_sectors}
use Rattle.msi_container_write.proofs.directories.BalanceLemmas.{AreApart, Covers, distinct_append, each_append}
use Rattle.msi_container_write.proofs.placing.PlacedLemmas.{NamedStreams, stream_at, sector_at, mini_sector_at, large_at, mini_at, directory_run, mini_fat_members, mini_stream_members}

-- the sectors of the large streams among some entries, and the mini sectors of the small ones
abbrev pub large_among : NamedStreams → List ℕ → List ℕ
large_among streams ms = flat_map (λ k. large_at streams (k - 1)) ms

abbrev pub mini_among : NamedStreams → List ℕ → List ℕ
mini_among streams ms = flat_map (λ k. mini_at streams (k - 1)) ms

-- LISTS OF LISTS

-- what holds of each number of each list holds of all of them
each_flat_map : (P : ℕ → Type 0) (f : ℕ → List ℕ) (ms : List ℕ)
    → ((m : ℕ) → m < length ms → (i : ℕ) → i < length (f (get_or ms m 0)) → P (get_or (f (get_or ms m 0)) i 0))
    → (i : ℕ) → i < length (flat_map f ms) → P (get_or (flat_map f ms) i 0)
each_flat_map P f [] each = λ i l. absurd (omega arith)
each_flat_map P f (m ∷ ms) each = each_append P (f m) (flat_map f ms) (each 0 (omega arith)) (each_flat_map P f ms (λ i l. each (suc i) (omega arith)))

-- lists without a number twice, of which no two have one in common
distinct_flat_map : (f : ℕ → List ℕ) (ms : List ℕ)
    → ((m : ℕ) → m < length ms → AreDistinct (f (get_or ms m 0)))
    → ((m n : ℕ) → m < n → n < length ms → AreApart (f (get_or ms m 0)) (f (get_or ms n 0)))
    → AreDistinct (flat_map f ms)
distinct_flat_map f [] distinct apart = λ i j l h. absurd (omega arith)
distinct_flat_map f (m ∷ ms) distinct apart =
    distinct_append (f m) (flat_map f ms) (distinct 0 (omega arith))
    (distinct_flat_map f ms (λ i l. distinct (suc i) (omega arith)) (λ i j l h. apart (suc i) (suc j) (omega arith) (omega arith)))
    (λ i j l h. each_flat_map (λ x. get_or (f m) i 0 ≢ x) f ms (λ n b k g. apart 0 (suc n) (omega arith) (omega arith) i k l g) j h)

-- ROWS

-- numbers from lo up to hi, none of them twice
record IsRow (lo hi : ℕ) (xs : List ℕ) : Type 0 where
  within : (i : ℕ) → i < length xs → (lo ≤ get_or xs i 0) × (get_or xs i 0 < hi)
  distinct : AreDistinct xs

-- the numbers of a range
row_range : (lo count hi : ℕ) → lo + count ≡ hi → IsRow lo hi (range_with_len lo count)
row_range lo count hi e =
    let long = length-range_with_len lo count in
    record {
      within = λ i l. rw (get_or-range_with_len lo count i 0 (omega arith)) (omega arith, omega arith);
      distinct = λ i j l h same. absurd (omega (arith, sym (get_or-range_with_len lo count i 0 (omega arith)) ∙ same ∙ get_or-range_with_len lo count j 0 (omega arith)));
    }

-- lists of which one stands below the other
apart_below : (lo mid hi : ℕ) (xs ys : List ℕ) → IsRow lo mid xs → IsRow mid hi ys → AreApart xs ys
apart_below lo mid hi xs ys p q i j l h same = absurd (omega (arith, same, (p.within i l).1, (q.within j h).0))

-- a row behind another, in order
row_append : (lo mid hi : ℕ) (xs ys : List ℕ) → IsRow lo mid xs → IsRow mid hi ys → lo ≤ mid → mid ≤ hi → IsRow lo hi (xs ++ ys)
row_append lo mid hi xs ys p q low high =
    record {
      within = each_append (λ x. (lo ≤ x) × (x < hi)) xs ys
          (λ i l. let w = p.within i l in (w.0, omega (arith, w.1)))
          (λ i l. let w = q.within i l in (omega (arith, w.0), w.1));
      distinct = distinct_append xs ys p.distinct q.distinct (apart_below lo mid hi xs ys p q);
    }

-- a row behind one of greater numbers
row_prepend : (lo mid hi : ℕ) (xs ys : List ℕ) → IsRow mid hi xs → IsRow lo mid ys → lo ≤ mid → mid ≤ hi → IsRow lo hi (xs ++ ys)
row_prepend lo mid hi xs ys p q low high =
    record {
      within = each_append (λ x. (lo ≤ x) × (x < hi)) xs ys
          (λ i l. let w = p.within i l in (omega (arith, w.0), w.1))
          (λ i l. let w = q.within i l in (w.0, omega (arith, w.1)));
      distinct = distinct_append xs ys p.distinct q.distinct (λ i j l h same. apart_below lo mid hi ys xs q p j i h l (sym same));
    }

-- RUNS

-- runs that are numbered from 1 on, each of which ends before the later ones start, have nothing in common
runs_apart : (start count : ℕ → ℕ) (n j k : ℕ)
    → ((i j : ℕ) → i < j → j < n → start i + count i ≤ start j)
    → (1 ≤ j) × (j < 1 + n)
    → (1 ≤ k) × (k < 1 + n)
    → j ≢ k
    → AreApart (range_with_len (start (j - 1)) (count (j - 1))) (range_with_len (start (k - 1)) (count (k - 1)))
runs_apart start count n j k rise p q apart =
    let row = λ (i : ℕ). row_range (start i) (count i) (start i + count i) refl in
    λ a b l h same.
    let u = (row (j - 1)).within a l in
    let v = (row (k - 1)).within b h in
    elim (cases_lt j k) [
      | inl less ↦ absurd (omega (arith, same, u.1, v.0, rise (j - 1) (k - 1) (omega arith) (omega arith)))
      | inr more ↦
          let other : k < j = omega arith in
          absurd (omega (arith, same, u.0, v.1, rise (k - 1) (j - 1) (omega arith) (omega arith)))
    ]

-- a run for each number that is covered, where each ends before the later ones start, and all lie between two bounds
row_of_runs : (start count : ℕ → ℕ) (n lo hi : ℕ) (ms : List ℕ)
    → Covers 1 n ms
    → ((i j : ℕ) → i < j → j < n → start i + count i ≤ start j)
    → ((i : ℕ) → i < n → (lo ≤ start i) × (start i + count i ≤ hi))
    → IsRow lo hi (flat_map (λ k. range_with_len (start (k - 1)) (count (k - 1))) ms)
row_of_runs start count n lo hi ms covers rise bound =
    let f : ℕ → List ℕ = λ k. range_with_len (start (k - 1)) (count (k - 1)) in
    let row = λ (k : ℕ). row_range (start (k - 1)) (count (k - 1)) (start (k - 1) + count (k - 1)) refl in
    record {
      within = each_flat_map (λ x. (lo ≤ x) × (x < hi)) f ms (λ m l i h.
          let k = get_or ms m 0 in
          let w = covers.within m l in
          let b = bound (k - 1) (omega arith) in
          let v = (row k).within i h in
          (omega (arith, b.0, v.0), omega (arith, b.1, v.1)));
      distinct = distinct_flat_map f ms (λ m l. (row (get_or ms m 0)).distinct) (λ m k l h.
          runs_apart start count n (get_or ms m 0) (get_or ms k 0) rise (covers.within m (omega arith)) (covers.within k h) (covers.distinct m k l h));
    }

-- the units of a stream's part end before those of a later stream's start
units_rise : (size : ℕ) (part : List ℕ × List ℕ → List ℕ) (streams : NamedStreams) (i j : ℕ) → i < j → i < length streams
    → all_units size (take i (map part streams)) + units size (part (stream_at streams i)) ≤ all_units size (take j (map part streams))
units_rise size part [] i j l h = absurd (omega arith)
units_rise size part (stream ∷ streams) i zero l h = absurd (omega arith)
units_rise size part (stream ∷ streams) zero (suc j) l h = omega arith
units_rise size part (stream ∷ streams) (suc i) (suc j) l h = let rise = units_rise size part streams i j (omega arith) (omega arith) in omega arith

-- and they end where all end, or before
units_end : (size : ℕ) (part : List ℕ × List ℕ → List ℕ) (streams : NamedStreams) (i : ℕ) → i < length streams
    → all_units size (take i (map part streams)) + units size (part (stream_at streams i)) ≤ all_units size (map part streams)
units_end size part streams i l =
    let rise = units_rise size part streams i (length streams) l l in
    rw (take_all (length streams) (map part streams) (omega (arith, length-map streams part))) at rise

-- THE LAYOUT

-- the large streams' sectors
row_of_large : (streams : NamedStreams) (ms : List ℕ) → Covers 1 (length streams) ms → IsRow (large_first streams) (taken_by streams) (large_among streams ms)
row_of_large streams ms covers =
    row_of_runs (sector_at streams) (λ i. units 512 (large_part (stream_at streams i))) (length streams) (large_first streams) (taken_by streams) ms covers
    (λ i j l h. behind (large_first streams) _ _ _ (units_rise 512 large_part streams i j l (omega arith)))
    (λ i l. (omega arith, behind (large_first streams) _ _ _ (units_end 512 large_part streams i l)))
  where
    behind : (first a b c : ℕ) → a + b ≤ c → first + a + b ≤ first + c
    behind first a b c h = omega arith

-- the small streams' mini sectors
row_of_mini : (streams : NamedStreams) (ms : List ℕ) → Covers 1 (length streams) ms → IsRow 0 (mini_sectors streams) (mini_among streams ms)
row_of_mini streams ms covers =
    row_of_runs (mini_sector_at streams) (λ i. units 64 (mini_part (stream_at streams i))) (length streams) 0 (mini_sectors streams) ms covers
    (λ i j l h. units_rise 64 mini_part streams i j l (omega arith))
    (λ i l. (omega arith, units_end 64 mini_part streams i l))

-- the directory, the mini FAT and the mini stream in front of a row, the FAT behind it, and the DIFAT behind the FAT
row_of_sectors : (directory mini_fat mini_stream taken fat difat : ℕ) (large : List ℕ)
    → IsRow (directory + mini_fat + mini_stream) taken large
    → directory + mini_fat + mini_stream ≤ taken
    → IsRow 0 (taken + fat + difat) (range_with_len (taken + fat) difat ++ range_with_len taken fat ++ range_with_len 0 directory ++ range_with_len directory mini_fat ++ range_with_len (directory + mini_fat) mini_stream ++ large)
row_of_sectors directory mini_fat mini_stream taken fat difat large row fits =
    let behind_mini_fat = row_append (directory + mini_fat) (directory + mini_fat + mini_stream) taken _ _
    (row_range (directory + mini_fat) mini_stream (directory + mini_fat + mini_stream) refl) row (omega arith) fits in
    let behind_directory = row_append directory (directory + mini_fat) taken _ _
    (row_range directory mini_fat (directory + mini_fat) refl) behind_mini_fat (omega arith) (omega arith) in
    let parts = row_append 0 directory taken _ _ (row_range 0 directory directory (omega arith)) behind_directory (omega arith) (omega arith) in
    let with_fat = row_prepend 0 taken (taken + fat) _ _ (row_range taken fat (taken + fat) refl) parts (omega arith) (omega arith) in
    simp append_assoc
    (row_prepend 0 (taken + fat) (taken + fat + difat) _ _ (row_range (taken + fat) difat (taken + fat + difat) refl) with_fat (omega arith) (omega arith))

-- the same of a layout
row_of_layout : (streams : NamedStreams) (ms : List ℕ) (fat difat : ℕ) → Covers 1 (length streams) ms
    → IsRow 0 (taken_by streams + fat + difat) (range_with_len (taken_by streams + fat) difat ++ range_with_len (taken_by streams) fat ++ directory_run streams ++ mini_fat_members streams ++ mini_stream_members streams ++ large_among streams ms)
row_of_layout streams ms fat difat covers =
    row_of_sectors (directory_sectors (length streams)) (mini_fat_sectors streams) (mini_stream_sectors streams) (taken_by streams) fat difat (large_among streams ms)
    (row_of_large streams ms covers) (omega arith)

-- no sector is used twice
pub sectors_apart : (streams : NamedStreams) (ms : List ℕ) (fat difat : ℕ) → Covers 1 (length streams) ms
    → AreDistinct (range_with_len (taken_by streams + fat) difat ++ range_with_len (taken_by streams) fat ++ directory_run streams ++ mini_fat_members streams ++ mini_stream_members streams ++ large_among streams ms)
sectors_apart streams ms fat difat covers = (row_of_layout streams ms fat difat covers).distinct

-- and each is one of those that are taken
pub sectors_below : (streams : NamedStreams) (ms : List ℕ) (fat difat : ℕ) → Covers 1 (length streams) ms
    → AreBelow (taken_by streams + fat + difat) (range_with_len (taken_by streams + fat) difat ++ range_with_len (taken_by streams) fat ++ directory_run streams ++ mini_fat_members streams ++ mini_stream_members streams ++ large_among streams ms)
sectors_below streams ms fat difat covers = λ i l. ((row_of_layout streams ms fat difat covers).within i l).1

-- no mini sector is used twice
pub mini_apart : (streams : NamedStreams) (ms : List ℕ) → Covers 1 (length streams) ms → AreDistinct (mini_among streams ms)
mini_apart streams ms covers = (row_of_mini streams ms covers).distinct

-- and each is one of those of the mini stream
pub mini_below : (streams : NamedStreams) (ms : List ℕ) → Covers 1 (length streams) ms → AreBelow (mini_sectors streams) (mini_among streams ms)
mini_below streams ms covers = λ i l. ((row_of_mini streams ms covers).within i l).1
