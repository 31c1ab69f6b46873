-- How many sectors are in use, and how many steps are left, over plain numbers and vectors.
use Rattle.std.proofs.Common.{◌≡◌, ℕ, ◌+◌, ◌-◌, ◌*◌, ◌<◌, ◌≤◌, ◌^◌, Bool, List, [], ◌∷◌, ◌++◌, length, ap, arith, Vec, Global, vec_len}
use Rattle.std.specs.List.{count_by}
use Rattle.msi_container_tables.proofs.chains.ChainStepLemmas.{used_more, used_one_more}
use Rattle.msi_container_tables.proofs.chains.ClaimedLemmas.{few_claimed}

-- what was taken into use in two calls is no more than there are marks
pub few_taken : (before between after first second : Vec ℕ Global) (marks : Vec Bool Global) (limit : ℕ)
    → between.items ≡ before.items ++ first.items
    → after.items ≡ between.items ++ second.items
    → count_by (λ b. b) marks.items ≡ vec_len after
    → vec_len marks ≡ limit
    → vec_len first + vec_len second ≤ limit
few_taken before between after first second marks limit a b counted e =
    omega (arith, used_more before between first a, used_more between after second b, few_claimed marks after counted, e)

-- steps that were taken for what was claimed, where nothing was in use
pub bounded_from_none : (s t : ℕ) (none before after : Vec ℕ Global) → none.items ≡ [] → t + vec_len before ≤ s + vec_len after → t + vec_len none ≤ s + vec_len after
bounded_from_none s t none before after e h = omega (arith, ap (λ (xs : List ℕ). length xs) e, none.ok, h)

pub unmoved_from_none : (s : ℕ) (none after : Vec ℕ Global) → none.items ≡ [] → s + vec_len none ≤ s + vec_len after
unmoved_from_none s none after e = omega (arith, ap (λ (xs : List ℕ). length xs) e, none.ok)

-- what is in use is within all marks
pub unmoved_within : (s l m k : ℕ) → l ≤ m → s + l ≤ s + m + k
unmoved_within s l m k h = omega arith

-- there is room for the steps of one of two tables, where the other's sectors are at most its marks
pub room_in_second : (s m n l k : ℕ) → l ≤ m → s + m + n + 1 < 2 ^ 64 + l + k → s + n + 1 < 2 ^ 64 + k
room_in_second s m n l k a h = omega arith

pub room_in_first : (s m n l k : ℕ) → k ≤ n → s + m + n + 1 < 2 ^ 64 + l + k → s + m + 1 < 2 ^ 64 + l
room_in_first s m n l k a h = omega arith

-- a link that was followed leaves fewer entries and links: one entry is in use, and its two links are pending
pub fewer_left : (n : ℕ) (used used_then pending rest first second : Vec ℕ Global) (marks : Vec Bool Global) (link x y : ℕ)
    → used_then.items ≡ used.items ++ link ∷ []
    → count_by (λ b. b) marks.items ≡ vec_len used_then
    → vec_len marks ≡ n
    → pending.items ≡ rest.items ++ link ∷ []
    → first.items ≡ rest.items ++ x ∷ []
    → second.items ≡ first.items ++ y ∷ []
    → 2 * (n - vec_len used_then) + vec_len second < 2 * (n - vec_len used) + vec_len pending
fewer_left n used used_then pending rest first second marks link x y a counted e p q r =
    omega (arith, used_one_more used used_then link a, few_claimed marks used_then counted, e, used_one_more rest pending link p, used_one_more rest first x q, used_one_more first second y r)

pub grown : (a b c : ℕ) → a ≤ b → b ≤ c → a ≤ c
grown a b c p q = omega arith

pub grown_twice : (a b c d : ℕ) → a ≤ b → b ≤ c → c ≤ d → a ≤ d
grown_twice a b c d p q r = omega arith

-- steps that were taken for what was claimed, in two calls
pub steps_twice : (s t u k l m : ℕ) → t + k ≤ s + l → u + l ≤ t + m → u + k ≤ s + m
steps_twice s t u k l m p q = omega arith
