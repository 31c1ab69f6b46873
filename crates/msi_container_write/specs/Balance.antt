-- The balanced tree over the entries of a directory: each range of entries hangs from its middle.
use Rattle.std.specs.Prelude.{◌≡◌, ℕ, zero, suc, ◌+◌, ◌-◌, ◌/◌, ◌<◌, ◌≤◌, if◌then◌else◌, ◌==◌, nat_lt, length}
use Rattle.std.specs.Prelude.{slice_index}
use Rattle.msi_container_format.specs.Chains.{AreDistinct}
use Rattle.msi_container_format.specs.Format.{NO_ENTRY}
use Rattle.msi_container_format.specs.Trees.{Tree, members, IsSpelled}

-- how many of count entries stand before their middle
abbrev pub half : ℕ → ℕ
half count = (count - 1) / 2

-- the middle of count entries from lo on
abbrev pub middle : ℕ → ℕ → ℕ
middle lo count = if count == 0 then NO_ENTRY else lo + half count

-- the links of entry k in the tree over count entries from lo on, which is at most depth deep
abbrev pub left_link : ℕ → ℕ → ℕ → ℕ → ℕ
left_link zero lo count k = NO_ENTRY
left_link (suc depth) lo count k =
    if nat_lt k (lo + half count) then left_link depth lo (half count) k
    else if k == lo + half count then middle lo (half count)
    else left_link depth (lo + half count + 1) (count - 1 - half count) k

abbrev pub right_link : ℕ → ℕ → ℕ → ℕ → ℕ
right_link zero lo count k = NO_ENTRY
right_link (suc depth) lo count k =
    if nat_lt k (lo + half count) then right_link depth lo (half count) k
    else if k == lo + half count then middle (lo + half count + 1) (count - 1 - half count)
    else right_link depth (lo + half count + 1) (count - 1 - half count) k

-- The links of entries 1 to n spell a tree that has each of them once.
abbrev pub LinksSpellTree : Type 0
LinksSpellTree =
    (n : ℕ) → n < NO_ENTRY →
    (t : Tree) × IsSpelled (left_link n 1 n) (right_link n 1 n) (n + 1) (middle 1 n) t × AreDistinct (members t)
    × ((k : ℕ) → 1 ≤ k → k ≤ n → (i : ℕ) × (i < length (members t)) × (slice_index (members t) i ≡ k))
    × (length (members t) ≡ n)
