-- How many sectors are taken, which contents are refused, and what is written.
use Rattle.std.proofs.Common.{◌≡◌, ℕ, ◌+◌, ◌*◌, ◌^◌, ◌<◌, ◌≤◌, Bool, true, false, ◌||◌, nat_lt, IsTrue, List, length, ◌∙◌, ap, sym, subst, arith, refl}
use Rattle.std.specs.Int.{div_ceil}
use Rattle.std.specs.FinMap.{entries}
use Rattle.std.proofs.lemmas.Bool.{lt-ltb, le-ltb}
use Rattle.msi_container_format.specs.declared.contents.Contents.{Contents}
use Rattle.msi_container_write.specs.Extents.{all_units}
use Rattle.msi_container_write.specs.Image.{fat_sectors, difat_sectors, least_total}
use Rattle.msi_container_write.specs.Layout.{large_parts, mini_sectors, directory_sectors, large_first, taken_by, total, layout, refuses}
use Rattle.msi_container_write.specs.Sectors.{file}
use Rattle.msi_container_write.proofs.directories.EntriesLemmas.{large_place}
use Rattle.msi_container_write.proofs.placing.LaidPartsLemmas.{taken}
use Rattle.msi_container_write.proofs.placing.TotalsLemmas.{total_room}

-- HOW MANY SECTORS

first_of_three : (a b c d : ℕ) → a + b + c ≤ d → a ≤ d
first_of_three a b c d h = omega arith

-- no sector that is taken is left out
pub taken_most : (taken earlier : ℕ) → taken ≤ least_total taken earlier
taken_most taken earlier =
    first_of_three taken (fat_sectors (least_total taken earlier)) (difat_sectors (least_total taken earlier)) (least_total taken earlier) (total_room taken earlier)

-- WHAT IS REFUSED

or_true : (a : Bool) → (a || true) ≡ true
or_true true = refl
or_true false = refl

past : (n : ℕ) → 2 ^ 22 ≤ n → nat_lt (2 ^ 31) (512 * (n + 1)) ≡ true
past n h = lt-ltb (2 ^ 31) (512 * (n + 1)) (omega arith)

within : (n : ℕ) → n < 2 ^ 22 → nat_lt (2 ^ 31) (512 * (n + 1)) ≡ false
within n h = le-ltb (2 ^ 31) (512 * (n + 1)) (omega arith)

pub refused_large : (contents : Contents) (earlier : ℕ) → 2 ^ 22 ≤ total contents earlier → refuses contents earlier ≡ true
refused_large contents earlier large = ap (λ b. contents.has_storages || b) (past _ large) ∙ or_true _

pub accepted : (contents : Contents) (earlier : ℕ) → contents.has_storages ≡ false → total contents earlier < 2 ^ 22 → refuses contents earlier ≡ false
accepted contents earlier storages few =
    ap (λ b. b || nat_lt (2 ^ 31) (512 * (total contents earlier + 1))) storages ∙ within _ few

-- WHAT IS WRITTEN

-- the sectors that are counted
pub taken_counted : (streams : List (List ℕ × List ℕ)) (n mini large s t u : ℕ)
    → n ≡ length streams
    → mini ≡ mini_sectors streams
    → large ≡ all_units 512 (large_parts streams)
    → s ≡ directory_sectors n
    → t ≡ div_ceil mini 128
    → u ≡ div_ceil mini 8
    → s + t + u + large ≡ taken_by streams
taken_counted streams n mini large s t u n_is mini_is large_is s_is t_is u_is =
    ap (λ m. m + large) (large_place streams n mini s t u n_is mini_is s_is t_is u_is) ∙ ap (λ m. large_first streams + m) large_is

at_least : (a b c : ℕ) → a ≤ b → b ≤ c → a ≤ c
at_least a b c p q = omega arith

below : (a b c : ℕ) → a ≤ b → b < c → a < c
below a b c p q = omega arith

-- where too much is taken, the file is too large
pub large_total : (taken earlier : ℕ) → 2 ^ 22 ≤ taken → 2 ^ 22 ≤ least_total taken earlier
large_total taken earlier h = at_least (2 ^ 22) taken (least_total taken earlier) h (taken_most taken earlier)

-- where the file isn't too large, what is taken isn't
pub taken_few : (contents : Contents) (earlier n : ℕ) → n ≡ total contents earlier → n < 2 ^ 22 → taken_by (entries contents.streams) < 2 ^ 22
taken_few contents earlier n n_is few =
    let taken = taken_by (entries contents.streams) in
    below taken n (2 ^ 22) (subst (λ m. taken ≤ m) (sym n_is) (taken_most taken earlier)) few

-- there is room for the FAT and the DIFAT
pub room_for : (X n taken earlier : ℕ) → X ≡ taken → n ≡ least_total taken earlier → X + fat_sectors n + difat_sectors n ≤ n
room_for X n taken earlier x n_is =
    subst (λ a. a + fat_sectors n + difat_sectors n ≤ n) (sym x)
    (subst (λ m. taken + fat_sectors m + difat_sectors m ≤ m) (sym n_is) (total_room taken earlier))

-- the file, by what it is made of
pub same_file : (contents : Contents) (earlier n : ℕ) (clsid : List ℕ) (streams : List (List ℕ × List ℕ))
    → clsid ≡ contents.clsid
    → streams ≡ entries contents.streams
    → n ≡ total contents earlier
    → file clsid streams n ≡ layout contents earlier
same_file contents earlier n clsid streams clsid_is streams_is n_is = λ i. file (clsid_is i) (streams_is i) (n_is i)

pub not_true : (b : Bool) → (IsTrue b → ⊥) → b ≡ false
not_true true h = absurd (h refl)
not_true false h = refl
