-- A sound database is one whose places have room for the cells that name them.
use Rattle.std.proofs.Common.{◌≡◌, ℕ, zero, suc, ◌+◌, ◌<◌, ◌≤◌, Bool, true, false, List, [], ◌∷◌, length, nat_le, nat_lt, slice_get, refl, sym, ap, ◌∙◌, subst, arith, ⊎_elim, ◌==◌}
use Rattle.std.specs.List.{list_all}
use Rattle.std.proofs.lemmas.Bool.{cases_lt, cases_Bool, and_parts, and_from}
use Rattle.std.proofs.lemmas.Bool.Decides.{nat_tests}
use Rattle.std.proofs.lemmas.List.Folds.{list_all-map}
use Rattle.std.proofs.lemmas.Option.{slice_get_past}
use Rattle.msi_pool.specs.Pool.{Place}
use Rattle.msi_pool.specs.FirstFit.{count_of}
use Rattle.msi_base.specs.Lists.{numbers_from, numbers_below}
use Rattle.msi_base.proofs.ListLemmas.{each_number}
use Rattle.msi_database_changes.specs.Database.{Database, named_numbers, cells_naming, CountsAreExact, counts_suffice, names_stay_in_pool}
use Rattle.msi_database_schema.proofs.AccountLemmas.{once, room, Enough}
use Rattle.msi_database_changes.proofs.text_counts.TablesLemmas.{times, times-cons, database_uses, naming_is}

-- 0 names no place
abbrev pub names_are_numbers : Database → Bool
names_are_numbers d = list_all (λ n. nat_lt 0 n) (named_numbers d)

pub numbers_all : (p : ℕ → Bool) (k i : ℕ) → ((j : ℕ) → i ≤ j → j < i + k → p j ≡ true) → list_all p (numbers_from i k) ≡ true
numbers_all p zero i h = refl
numbers_all p (suc k) i h = and_from (p i) (list_all p (numbers_from (i + 1) k)) (h i (omega arith) (omega arith)) (numbers_all p k (i + 1) (λ j l m. h j (omega (arith, l)) (omega (arith, m))))

-- what is named passes a test that all names pass, and a test that each name passes, all pass
named_passes : (p : ℕ → Bool) (n : ℕ) (xs : List ℕ) → list_all p xs ≡ true → 0 < times n xs → p n ≡ true
named_passes p n [] h named = absurd (omega (arith, named))
named_passes p n (x ∷ xs) h named =
    let parts = and_parts (p x) (list_all p xs) h in
    ⊎_elim (λ t. let e : x ≡ n = grind (arith, nat_tests) in subst (λ m. p m ≡ true) e parts.0)
    (λ f. let other : once x n ≡ 0 = rw f in named_passes p n xs parts.1 (omega (arith, named, times-cons n x xs, other)))
    (cases_Bool (x == n))

all_named_pass : (p : ℕ → Bool) (xs : List ℕ) → ((n : ℕ) → 0 < times n xs → p n ≡ true) → list_all p xs ≡ true
all_named_pass p [] h = refl
all_named_pass p (x ∷ xs) h =
    let itself : once x x ≡ 1 = grind (arith, nat_tests) in
    and_from (p x) (list_all p xs) (h x (omega (arith, times-cons x x xs, itself))) (all_named_pass p xs (λ n k. h n (omega (arith, k, times-cons n x xs))))

pub not_named : (p : ℕ → Bool) (n : ℕ) (xs : List ℕ) → list_all p xs ≡ true → p n ≡ false → times n xs ≡ 0
not_named p n xs h fails = ⊎_elim
    (λ (some : 0 < times n xs). let yes = named_passes p n xs h some in grind (arith, nat_tests))
    (λ (none : times n xs ≤ 0). omega (arith, none))
    (cases_lt 0 (times n xs))

-- the test that counts suffice, place by place
abbrev pub suffices_at : Database → ℕ → Bool
suffices_at d i = nat_le (cells_naming d (i + 1)) (count_of (slice_get d.pool.places i))

pub counts_suffice_at : (d : Database) → counts_suffice d ≡ (list_all (suffices_at d) (numbers_below (length d.pool.places)))
counts_suffice_at d = list_all-map (λ enough. enough) (suffices_at d) (numbers_below (length d.pool.places))

at_next : (d : Database) (i : ℕ) → cells_naming d (i + 1) ≡ database_uses d (suc i)
at_next d i = let e : i + 1 ≡ suc i = omega arith in rw e (naming_is d (suc i))

pub enough_from_sound : (d : Database) → counts_suffice d ≡ true → names_stay_in_pool d ≡ true → names_are_numbers d ≡ true → Enough d.pool.places (database_uses d)
enough_from_sound d counts stay numbers zero =
    let fails : nat_lt 0 0 ≡ false = refl in
    omega (arith, not_named (λ n. nat_lt 0 n) 0 (named_numbers d) numbers fails, naming_is d 0)
enough_from_sound d counts stay numbers (suc i) = ⊎_elim
    (λ (within : i < length d.pool.places).
    let there : suffices_at d i ≡ true = each_number (suffices_at d) 0 (length d.pool.places) (sym (counts_suffice_at d) ∙ counts) i (omega arith) (omega (arith, within)) in
    let less : cells_naming d (i + 1) ≤ count_of (slice_get d.pool.places i) = grind (arith, nat_tests) in
    omega (arith, less, at_next d i))
    (λ (past : length d.pool.places ≤ i).
    let fails : nat_le (suc i) (length d.pool.places) ≡ false = grind (arith, nat_tests) in
    omega (arith, not_named (λ n. nat_le n (length d.pool.places)) (suc i) (named_numbers d) stay fails, naming_is d (suc i)))
    (cases_lt i (length d.pool.places))

-- a place with room is one of the list
room_within : (places : List Place) (n : ℕ) → 0 < room places n → (0 < n) × (n ≤ length places)
room_within places zero h = absurd (omega (arith, h))
room_within places (suc i) h = ⊎_elim
    (λ (within : i < length places). (omega arith, omega (arith, within)))
    (λ (past : length places ≤ i). absurd (omega (arith, h, ap count_of (slice_get_past places i past))))
    (cases_lt i (length places))

pub record SoundCounts (d : Database) : Type 0 where
  pub suffice : counts_suffice d ≡ true
  pub in_pool : names_stay_in_pool d ≡ true
  pub numbers : names_are_numbers d ≡ true

pub sound_from_enough : (d : Database) → Enough d.pool.places (database_uses d) → SoundCounts d
sound_from_enough d enough = record {
  suffice = counts_suffice_at d ∙ numbers_all (suffices_at d) (length d.pool.places) 0 (λ i low high. at_place i);
  in_pool = all_named_pass (λ n. nat_le n (length d.pool.places)) (named_numbers d) (λ n k. let w = room_within d.pool.places n (omega (arith, k, enough n, naming_is d n)) in grind (arith, nat_tests, w));
  numbers = all_named_pass (λ n. nat_lt 0 n) (named_numbers d) (λ n k. let w = room_within d.pool.places n (omega (arith, k, enough n, naming_is d n)) in grind (arith, nat_tests, w));
} where
  at_place : (i : ℕ) → suffices_at d i ≡ true
  at_place i = let less : cells_naming d (i + 1) ≤ count_of (slice_get d.pool.places i) = omega (arith, enough (suc i), at_next d i) in grind (arith, nat_tests)

-- each count is just the number of the cells
pub exact_from : (d : Database) → Enough d.pool.places (database_uses d) → CountsAreExact d → (n : ℕ) → room d.pool.places n ≡ database_uses d n
exact_from d enough exact zero = omega (arith, enough 0)
exact_from d enough exact (suc i) = ⊎_elim
    (λ (within : i < length d.pool.places). omega (arith, exact i within, at_next d i))
    (λ (past : length d.pool.places ≤ i). omega (arith, enough (suc i), ap count_of (slice_get_past d.pool.places i past)))
    (cases_lt i (length d.pool.places))

pub exact_to : (d : Database) → ((n : ℕ) → room d.pool.places n ≡ database_uses d n) → CountsAreExact d
exact_to d same i within = omega (arith, same (suc i), at_next d i)
