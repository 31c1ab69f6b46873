-- The least number of sectors that suffices.
use Rattle.std.proofs.Common.{◌≡◌, ℕ, zero, suc, ◌+◌, ◌-◌, ◌*◌, ◌<◌, ◌≤◌, Bool, true, false, leb, inl, inr, ◌∙◌, ap, subst, arith}
use Rattle.std.proofs.lemmas.Bool.{cases_lt, cases_Bool, both_ways, and_from, and_parts, le-leb, leb-true, cond-true, cond-false}
use Rattle.std.proofs.lemmas.Grind.{div_ceil_times}
use Rattle.msi_container_write.specs.Image.{fat_sectors, difat_sectors, suffices, first_from, least_total}

-- A SEARCH

-- a number that fails isn't one that passes
fails_below : (test : ℕ → Bool) (k m : ℕ) → test k ≡ false → test m ≡ true → k ≤ m → k + 1 ≤ m
fails_below test k m fails passes low =
    elim (cases_lt k m) [
      | inl less ↦ omega arith
      | inr more ↦
          let same : k ≡ m = omega arith in
          absurd (both_ways (test k) fails (ap test same ∙ passes))
    ]

-- it ends at a number that passes, where there is one
search_passes : (test : ℕ → Bool) (k few m : ℕ) → k ≤ m → m ≤ k + few → test m ≡ true → test (first_from test k few) ≡ true
search_passes test k zero m low high passes =
    let same : k ≡ m = omega arith in
    ap test same ∙ passes
search_passes test k (suc few) m low high passes =
    let rest = first_from test (k + 1) few in
    elim (cases_Bool (test k)) [
      | inl here ↦ ap test (cond-true (test k) k rest here) ∙ here
      | inr fails ↦ ap test (cond-false (test k) k rest fails) ∙ search_passes test (k + 1) few m (fails_below test k m fails passes low) (omega arith) passes
    ]

-- no number before that passes
search_least : (test : ℕ → Bool) (k few t : ℕ) → k ≤ t → t < first_from test k few → test t ≡ false
search_least test k zero t low before = absurd (omega arith)
search_least test k (suc few) t low before =
    let rest = first_from test (k + 1) few in
    elim (cases_Bool (test k)) [
      | inl here ↦
          let at_k : t < k = subst (λ (n : ℕ). t < n) (cond-true (test k) k rest here) before in
          absurd (omega arith)
      | inr fails ↦
          let later : t < rest = subst (λ (n : ℕ). t < n) (cond-false (test k) k rest fails) before in
          elim (cases_lt k t) [
            | inl less ↦ search_least test (k + 1) few t (omega arith) later
            | inr more ↦
                let same : t ≡ k = omega arith in
                ap test same ∙ fails
          ]
    ]

-- HOW MANY SECTORS

-- there is room for them in a file of twice the sectors that are taken
has_room : (taken total fat difat : ℕ) → 2 * taken + 4 ≤ total → fat * 128 < total + 128 → difat * 127 < fat - 109 + 127 → taken + fat + difat ≤ total
has_room taken total fat difat l f d = omega arith

-- WHAT SUFFICES

-- room, and the length
pub suffices_with : (taken earlier total : ℕ) → taken + fat_sectors total + difat_sectors total ≤ total → earlier ≤ 512 * (total + 1) → suffices taken earlier total ≡ true
suffices_with taken earlier total room long =
    and_from (leb (taken + fat_sectors total + difat_sectors total) total) (leb earlier (512 * (total + 1))) (le-leb _ _ room) (le-leb _ _ long)

-- the bound
bound_suffices : (taken earlier : ℕ) → suffices taken earlier (2 * taken + earlier + 4) ≡ true
bound_suffices taken earlier =
    let total = 2 * taken + earlier + 4 in
    let f = div_ceil_times total 128 (omega arith) in
    let d = div_ceil_times (fat_sectors total - 109) 127 (omega arith) in
    suffices_with taken earlier total (has_room taken total (fat_sectors total) (difat_sectors total) (omega arith) f.1 d.1) (omega arith)

-- THE LEAST TOTAL

-- it suffices
pub total_suffices : (taken earlier : ℕ) → suffices taken earlier (least_total taken earlier) ≡ true
total_suffices taken earlier = search_passes (suffices taken earlier) 0 (2 * taken + earlier + 4) (2 * taken + earlier + 4) (omega arith) (omega arith) (bound_suffices taken earlier)

-- nothing below it does
pub total_least : (taken earlier t : ℕ) → t < least_total taken earlier → suffices taken earlier t ≡ false
total_least taken earlier t l = search_least (suffices taken earlier) 0 (2 * taken + earlier + 4) t (omega arith) l

-- so there is room for the parts, the FAT and the DIFAT
pub total_room : (taken earlier : ℕ) → taken + fat_sectors (least_total taken earlier) + difat_sectors (least_total taken earlier) ≤ least_total taken earlier
total_room taken earlier =
    let total = least_total taken earlier in
    leb-true _ _ ((and_parts (leb (taken + fat_sectors total + difat_sectors total) total) (leb earlier (512 * (total + 1))) (total_suffices taken earlier)).0)

-- where nothing below a number suffices, it isn't below
pub total_past : (taken earlier n : ℕ) → ((t : ℕ) → t < n → suffices taken earlier t ≡ false) → n ≤ least_total taken earlier
total_past taken earlier n none =
    let total = least_total taken earlier in
    elim (cases_lt total n) [
      | inl less ↦ absurd (both_ways (suffices taken earlier total) (none total less) (total_suffices taken earlier))
      | inr more ↦ more
    ]

-- which number it is
pub total_is : (taken earlier total : ℕ) → suffices taken earlier total ≡ true → ((t : ℕ) → t < total → suffices taken earlier t ≡ false) → least_total taken earlier ≡ total
total_is taken earlier total enough none =
    let past : total ≤ least_total taken earlier = total_past taken earlier total none in
    elim (cases_lt total (least_total taken earlier)) [
      | inl less ↦ absurd (both_ways (suffices taken earlier total) (total_least taken earlier total less) enough)
      | inr more ↦ omega arith
    ]
